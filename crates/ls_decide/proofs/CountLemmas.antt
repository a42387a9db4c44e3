-- What counting a list adds to what was counted.
use Rattle.std.proofs.Common.{ℕ, ◌≡◌, ◌≤◌, ◌<◌, ◌+◌, ◌*◌, ◌^◌, refl, sym, ◌∙◌, ap, subst, arith, List, [], ◌∷◌, ◌++◌, length, Bool, true, false, ◌||◌, ◌&&◌, ◌==◌, if◌then◌else◌, Option, None, Some, nat_eq}
use Rattle.std.specs.List.{list_any}
use Rattle.std.specs.Cmp.Lexicographic.{pointwise}
use Rattle.std.proofs.lemmas.List.Sums.{sum_by_push, sum_by-append}
use Rattle.ls_spec.specs.Specifier.{Specifier}
use Rattle.ls_spec.specs.Distinct.{same}
use Rattle.ls_object.proofs.SymbolLemmas.{Decides-text}
use Rattle.ls_lists.specs.Sides.{cars_of, cdrs_of, height}
use Rattle.ls_lists.specs.Walks.{rows_with, part_with, rows, part, is_none, among, is_done, walk, total}
use Rattle.ls_spec.specs.Atoms.{atoms_of}
use Rattle.ls_lists.proofs.FallLemmas.{cars_less, cdrs_less}
use Rattle.ls_lists.proofs.AmongLemmas.{same_list_itself}
use Rattle.ls_lists.proofs.RowLemmas.{rows_none, rows_some, part_is}
use Rattle.ls_lists.proofs.WalkLemmas.{walk_done, walk_new, walk_adds, walk_fresh}
use Rattle.ls_intern.specs.Places.{at, specifiers_at, AllBelow, Distinct}
use Rattle.ls_memo.specs.Kept.{kept_for}
use Rattle.ls_decide.specs.steps.Cut.{cut}
use Rattle.ls_sides.specs.Gathering.{AreSides}
use Rattle.ls_decide.specs.steps.Counting.{lists_counted, RowsKept, AreCounts, IsCounted, Adds}
use Rattle.ls_decide.proofs.CutLemmas.{cut_plus, cut_times}
use Rattle.ls_decide.proofs.CandidateLemmas.{rows_cut, part_cut}
use Rattle.ls_sides.proofs.GatherLemmas.{same_at}

abbrev Entries : Type 0
Entries = List (List ℕ × ℕ)

-- two lists of numbers are equal exactly where their specifiers are the same
same_lists : (known : List Specifier) → Distinct known → (xs ys : List ℕ) → AllBelow (length known) xs → AllBelow (length known) ys
    → pointwise nat_eq xs ys ≡ pointwise same (specifiers_at known xs) (specifiers_at known ys)
same_lists known d [] [] h k = refl
same_lists known d [] (y ∷ ys) h k = refl
same_lists known d (x ∷ xs) [] h k = refl
same_lists known d (x ∷ xs) (y ∷ ys) h k =
    let e = same_at known d x y h.0 k.0 in
    let f = same_lists known d xs ys h.1 k.1 in
    ap (λ b. b && pointwise nat_eq xs ys) e ∙ ap (λ b. same (at known x) (at known y) && b) f

among_cons : (list other : List Specifier) (lists : List (List Specifier)) → among list (other ∷ lists) ≡ (pointwise same list other || among list lists)
unfolding among
among_cons list other lists = refl

or_true : (b c : Bool) → b ≡ true → (b || c) ≡ true
or_true true c e = refl
or_true false c e = absurd (cc)

or_second : (b c : Bool) → c ≡ true → (b || c) ≡ true
or_second true c e = refl
or_second false c e = e

-- a list for which something is kept was counted
pub kept_among : (known : List Specifier) (ids : List ℕ) (entries : Entries) (n : ℕ) → kept_for ids entries ≡ Some n → among (specifiers_at known ids) (lists_counted known entries) ≡ true
kept_among known ids [] n e = absurd (cc)
kept_among known ids (x ∷ entries) n e = among_cons _ _ _ ∙ by (pointwise nat_eq ids x.0) refl e (λ f. kept_among known ids entries n f)
  where
    here : ids ≡ x.0 → pointwise same (specifiers_at known ids) (specifiers_at known x.0) ≡ true
    here f = subst (λ y. pointwise same (specifiers_at known ids) (specifiers_at known y) ≡ true) f (same_list_itself (specifiers_at known ids))

    by : (b : Bool) → pointwise nat_eq ids x.0 ≡ b → (if b then Some x.1 else kept_for ids entries) ≡ Some n → (kept_for ids entries ≡ Some n → among (specifiers_at known ids) (lists_counted known entries) ≡ true)
        → (pointwise same (specifiers_at known ids) (specifiers_at known x.0) || among (specifiers_at known ids) (lists_counted known entries)) ≡ true
    by true i e f = or_true _ _ (here ((Decides-text ids x.0).0 i))
    by false i e f = or_second _ _ (f e)

-- what is kept for a list is how many rows it has, cut
rows_kept : (known : List Specifier) (ids : List ℕ) (entries : Entries) (n : ℕ) → RowsKept known entries → kept_for ids entries ≡ Some n → n ≡ cut (rows (specifiers_at known ids))
rows_kept known ids [] n h e = absurd (cc)
rows_kept known ids (x ∷ entries) n h e = by (pointwise nat_eq ids x.0) refl e (λ f. rows_kept known ids entries n h.1 f)
  where
    by : (b : Bool) → pointwise nat_eq ids x.0 ≡ b → (if b then Some x.1 else kept_for ids entries) ≡ Some n → (kept_for ids entries ≡ Some n → n ≡ cut (rows (specifiers_at known ids))) → n ≡ cut (rows (specifiers_at known ids))
    by true i e f = let j : x.1 ≡ n = cc in sym j ∙ h.0.1 ∙ ap (λ l. cut (rows (specifiers_at known l))) (sym ((Decides-text ids x.0).0 i))
    by false i e f = f e

-- a list that was not counted has nothing kept for it
pub none_kept : (known : List Specifier) (ids : List ℕ) (entries : Entries) → among (specifiers_at known ids) (lists_counted known entries) ≡ false → kept_for ids entries ≡ None
none_kept known ids entries e = by (kept_for ids entries) refl
  where
    by : (o : Option ℕ) → kept_for ids entries ≡ o → kept_for ids entries ≡ None
    by None f = f
    by (Some n) f = absurd (let g = kept_among known ids entries n f in let h : true ≡ false = sym g ∙ e in cc)

-- and one for which nothing is kept was not counted
pub not_counted : (known : List Specifier) → Distinct known → (ids : List ℕ) (entries : Entries) → AllBelow (length known) ids → RowsKept known entries → kept_for ids entries ≡ None
    → among (specifiers_at known ids) (lists_counted known entries) ≡ false
unfolding among
not_counted known d ids [] b h e = refl
not_counted known d ids (x ∷ entries) b h e = by (pointwise nat_eq ids x.0) (same_lists known d ids x.0 b h.0.0) e (λ f. not_counted known d ids entries b h.1 f)
  where
    by : (c : Bool) → c ≡ pointwise same (specifiers_at known ids) (specifiers_at known x.0) → (if c then Some x.1 else kept_for ids entries) ≡ None → (kept_for ids entries ≡ None → among (specifiers_at known ids) (lists_counted known entries) ≡ false)
        → (pointwise same (specifiers_at known ids) (specifiers_at known x.0) || list_any (pointwise same (specifiers_at known ids)) (lists_counted known entries)) ≡ false
    by true i e f = absurd (cc)
    by false i e f = ap (λ y. y || list_any (pointwise same (specifiers_at known ids)) (lists_counted known entries)) (sym i) ∙ f e

-- the empty list
pub counted_empty : (known list : List Specifier) (entries : Entries) (sum : ℕ) → is_none list ≡ true → AreCounts known entries sum → IsCounted known list entries entries sum 1
counted_empty known list entries sum e c = record {
  rows_are = (let f = rows_none list e in omega arith);
  lists_are = sym (walk_done list (lists_counted known entries) (or_true _ _ e));
  counts = c;
}

-- a list that was counted before
pub counted_before : (known : List Specifier) (ids : List ℕ) (entries : Entries) (sum n : ℕ) → AreCounts known entries sum → kept_for ids entries ≡ Some n → IsCounted known (specifiers_at known ids) entries entries sum n
counted_before known ids entries sum n c e = record {
  rows_are = rows_kept known ids entries n c.each e;
  lists_are = sym (walk_done (specifiers_at known ids) (lists_counted known entries) (or_second _ _ (kept_among known ids entries n e)));
  counts = c;
}

or_false : (b c : Bool) → b ≡ false → c ≡ false → (b || c) ≡ false
or_false b c e f = ap (λ x. x || c) e ∙ f

-- a list that has to be counted
pub not_done : (known : List Specifier) → Distinct known → (ids : List ℕ) (entries : Entries) (sum : ℕ) → AllBelow (length known) ids → AreCounts known entries sum → is_none (specifiers_at known ids) ≡ false → kept_for ids entries ≡ None
    → is_done (specifiers_at known ids) (lists_counted known entries) ≡ false
not_done known d ids entries sum b c e f = or_false _ _ e (not_counted known d ids entries b c.each f)

-- a walk of the cars adds no more than the whole walk
total_more : (list : List Specifier) (seen : List (List Specifier)) → total seen ≤ total (walk list seen)
total_more list seen = let m = walk_adds list seen in let e = ap total m.1 ∙ sum_by-append part seen m.0 in omega arith

total_new : (list : List Specifier) (seen : List (List Specifier)) → is_done list seen ≡ false → total (walk list seen) ≡ total (walk (cdrs_of list) (walk (cars_of list) seen)) + part list
total_new list seen e = ap total (walk_new list seen e) ∙ sum_by_push part (walk (cdrs_of list) (walk (cars_of list) seen)) list

pub cdrs_pass : (budget : ℕ) (list : List Specifier) (seen : List (List Specifier)) → is_done list seen ≡ false → budget < total (walk (cdrs_of list) (walk (cars_of list) seen)) → budget < total (walk list seen)
cdrs_pass budget list seen e h = let f = total_new list seen e in omega arith

pub cars_pass : (budget : ℕ) (list : List Specifier) (seen : List (List Specifier)) → is_done list seen ≡ false → budget < total (walk (cars_of list) seen) → budget < total (walk list seen)
cars_pass budget list seen e h = cdrs_pass budget list seen e (let m = total_more (cdrs_of list) (walk (cars_of list) seen) in omega arith)

-- nothing was kept for a list that has to be counted while its cars and cdrs were counted
pub still_absent : (known : List Specifier) (ids : List ℕ) (old one two : Entries) → is_done (specifiers_at known ids) (lists_counted known old) ≡ false
    → lists_counted known one ≡ walk (cars_of (specifiers_at known ids)) (lists_counted known old)
    → lists_counted known two ≡ walk (cdrs_of (specifiers_at known ids)) (lists_counted known one)
    → kept_for ids two ≡ None
still_absent known ids old one two e f g = none_kept known ids two
    (ap (among (specifiers_at known ids)) (g ∙ ap (walk (cdrs_of (specifiers_at known ids))) f) ∙ walk_fresh (specifiers_at known ids) (lists_counted known old) e)

kept_more : (known : List Specifier) (entries : Entries) (ids : List ℕ) (n : ℕ) → RowsKept known entries → AllBelow (length known) ids → n ≡ cut (rows (specifiers_at known ids)) → RowsKept known (entries ++ (ids, n) ∷ [])
kept_more known [] ids n h b e = ((b, e), tt)
kept_more known (x ∷ entries) ids n h b e = (h.0, kept_more known entries ids n h.1 b e)

lists_last : (known : List Specifier) (entries : Entries) (ids : List ℕ) (n : ℕ) → lists_counted known (entries ++ (ids, n) ∷ []) ≡ lists_counted known entries ++ specifiers_at known ids ∷ []
lists_last known [] ids n = refl
lists_last known (x ∷ entries) ids n = ap (λ l. specifiers_at known x.0 ∷ l) (lists_last known entries ids n)

-- pairs of cut rows
pairs_are : (x y p a b : ℕ) → x ≡ cut a → y ≡ cut b → p ≡ cut (x * y) → p ≡ cut (a * b)
pairs_are x y p a b e f g = g ∙ ap (λ z. cut (z * y)) e ∙ ap (λ z. cut (cut a * z)) f ∙ cut_times a b

-- a list was counted behind its cars and cdrs
pub counted_new : (known : List Specifier) (ids : List ℕ) (old one two new : Entries) (before after x y p n : ℕ) → AllBelow (length known) ids
    → is_none (specifiers_at known ids) ≡ false → is_done (specifiers_at known ids) (lists_counted known old) ≡ false
    → lists_counted known one ≡ walk (cars_of (specifiers_at known ids)) (lists_counted known old) → x ≡ cut (rows (cars_of (specifiers_at known ids)))
    → lists_counted known two ≡ walk (cdrs_of (specifiers_at known ids)) (lists_counted known one) → y ≡ cut (rows (cdrs_of (specifiers_at known ids)))
    → AreCounts known two before → p ≡ cut (x * y) → Adds ids (specifiers_at known ids) p two new before after n
    → IsCounted known (specifiers_at known ids) old new after n
counted_new known ids old one two new before after x y p n b some fresh f xs g ys c ps a =
    let list = specifiers_at known ids in
    let q = pairs_are x y p (rows (cars_of list)) (rows (cdrs_of list)) xs ys ps in
    let rows_now : n ≡ cut (rows list) = a.rows_are ∙ ap (λ z. cut (rows_with z list)) q ∙ rows_cut list (rows (cars_of list) * rows (cdrs_of list)) ∙ ap cut (sym (rows_some list some)) in
    let part_now : cut (part_with p list) ≡ cut (part list) = ap (λ z. cut (part_with z list)) q ∙ part_cut list (rows (cars_of list) * rows (cdrs_of list)) ∙ ap cut (sym (part_is list)) in
    let lists_now : lists_counted known new ≡ lists_counted known two ++ list ∷ [] = ap (lists_counted known) a.put ∙ lists_last known two ids n in
    record {
      rows_are = rows_now;
      lists_are = lists_now ∙ ap (λ l. l ++ list ∷ []) (g ∙ ap (walk (cdrs_of list)) f) ∙ sym (walk_new list (lists_counted known old) fresh);
      counts = record {
        each = subst (RowsKept known) (sym a.put) (kept_more known two ids n c.each b rows_now);
        together = a.total_is ∙ ap (λ z. cut (before + z)) part_now ∙ ap (λ z. cut (z + cut (part list))) c.together ∙ cut_plus (total (lists_counted known two)) (part list)
            ∙ ap cut (sym (ap total lists_now ∙ sum_by_push part (lists_counted known two) list));
      };
    }

-- where the cut total passes the budget, so does the total
pub total_pass : (known list : List Specifier) (old new : Entries) (budget after n : ℕ) → IsCounted known list old new after n → budget < after → budget < total (walk list (lists_counted known old))
total_pass known list old new budget after n c h = let t = c.counts.together in let e = ap total c.lists_are in omega arith

-- the cars of a list, and its cdrs, as they are handed on
pub cars_at : (known list : List Specifier) (atoms cars cdrs shown : List ℕ) → AreSides known list atoms cars cdrs → shown ≡ cars → (specifiers_at known shown ≡ cars_of list) × AllBelow (length known) shown
cars_at known list atoms cars cdrs shown s e = (ap (specifiers_at known) e ∙ s.cars_are, subst (AllBelow (length known)) (sym e) s.cars_below)

pub cdrs_at : (known list : List Specifier) (atoms cars cdrs shown : List ℕ) → AreSides known list atoms cars cdrs → shown ≡ cdrs → (specifiers_at known shown ≡ cdrs_of list) × AllBelow (length known) shown
cdrs_at known list atoms cars cdrs shown s e = (ap (specifiers_at known) e ∙ s.cdrs_are, subst (AllBelow (length known)) (sym e) s.cdrs_below)

pub atoms_at : (known list : List Specifier) (atoms cars cdrs shown : List ℕ) → AreSides known list atoms cars cdrs → shown ≡ atoms → (specifiers_at known shown ≡ atoms_of list) × AllBelow (length known) shown
atoms_at known list atoms cars cdrs shown s e = (ap (specifiers_at known) e ∙ s.atoms_are, subst (AllBelow (length known)) (sym e) s.atoms_below)

-- whether a list is empty
pub is_some : (known : List Specifier) (ids : List ℕ) (b : Bool) → b ≡ (length ids == 0) → b ≡ false → is_none (specifiers_at known ids) ≡ false
is_some known [] b e f = absurd (let g : false ≡ true = sym f ∙ e in cc)
is_some known (i ∷ ids) b e f = refl

pub is_empty_list : (known : List Specifier) (ids : List ℕ) (b : Bool) → b ≡ (length ids == 0) → b ≡ true → is_none (specifiers_at known ids) ≡ true
is_empty_list known [] b e f = refl
is_empty_list known (i ∷ ids) b e f = absurd (let g = sym f ∙ e in grind arith)

-- the cars are less high than the list, and so are the cdrs
pub cars_lower : (known list : List Specifier) (shown : List ℕ) → is_none list ≡ false → specifiers_at known shown ≡ cars_of list → height (specifiers_at known shown) < height list
cars_lower known list shown some e = subst (λ l. height l < height list) (sym e) (cars_less list some)

pub cdrs_lower : (known list : List Specifier) (shown : List ℕ) → is_none list ≡ false → specifiers_at known shown ≡ cdrs_of list → height (specifiers_at known shown) < height list
cdrs_lower known list shown some e = subst (λ l. height l < height list) (sym e) (cdrs_less list some)

-- a list was counted behind its cars and its cdrs
pub counted_all : (known : List Specifier) (ids firsts seconds : List ℕ) (old one two new : Entries) (between before after x y p n : ℕ) → AllBelow (length known) ids
    → is_none (specifiers_at known ids) ≡ false → is_done (specifiers_at known ids) (lists_counted known old) ≡ false
    → specifiers_at known firsts ≡ cars_of (specifiers_at known ids) → specifiers_at known seconds ≡ cdrs_of (specifiers_at known ids)
    → IsCounted known (specifiers_at known firsts) old one between x → IsCounted known (specifiers_at known seconds) one two before y
    → p ≡ cut (x * y) → Adds ids (specifiers_at known ids) p two new before after n
    → IsCounted known (specifiers_at known ids) old new after n
counted_all known ids firsts seconds old one two new between before after x y p n b some fresh e f first second ps a =
    counted_new known ids old one two new before after x y p n b some fresh
    (first.lists_are ∙ ap (λ l. walk l (lists_counted known old)) e) (first.rows_are ∙ ap (λ l. cut (rows l)) e)
    (second.lists_are ∙ ap (λ l. walk l (lists_counted known one)) f) (second.rows_are ∙ ap (λ l. cut (rows l)) f)
    second.counts ps a

pub absent_after : (known : List Specifier) (ids firsts seconds : List ℕ) (old one two : Entries) (between before x y : ℕ) → is_done (specifiers_at known ids) (lists_counted known old) ≡ false
    → specifiers_at known firsts ≡ cars_of (specifiers_at known ids) → specifiers_at known seconds ≡ cdrs_of (specifiers_at known ids)
    → IsCounted known (specifiers_at known firsts) old one between x → IsCounted known (specifiers_at known seconds) one two before y
    → kept_for ids two ≡ None
absent_after known ids firsts seconds old one two between before x y fresh e f first second =
    still_absent known ids old one two fresh
    (first.lists_are ∙ ap (λ l. walk l (lists_counted known old)) e) (second.lists_are ∙ ap (λ l. walk l (lists_counted known one)) f)

pub low_total : (known : List Specifier) (entries : Entries) (sum : ℕ) → AreCounts known entries sum → sum ≤ 2 ^ 31
low_total known entries sum c = let t = c.together in omega arith

pub walk_at : (budget : ℕ) (list other : List Specifier) (seen past : List (List Specifier)) → list ≡ other → seen ≡ past → budget < total (walk list seen) → budget < total (walk other past)
walk_at budget list other seen past e f h = subst (λ l. budget < total (walk other l)) f (subst (λ l. budget < total (walk l seen)) e h)
