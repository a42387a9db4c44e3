-- Names and symbols: no two have one text.
use Rattle.std.proofs.Common.{ℕ, ◌≡◌, Bool, true, false, not, cond, ◌&&◌, ◌||◌, ◌==◌, List, [], ◌∷◌, ◌++◌, codes, refl, sym, ap, ◌∙◌, subst, append_assoc, arith}
use Rattle.std.specs.List.{list_all, flat_map}
use Rattle.std.proofs.lemmas.Bool.{true≢false, and_parts, and_from, or_right}
use Rattle.std.proofs.lemmas.List.{append_cancel_left, append_cancel_right}
use Rattle.std.proofs.lemmas.List.Folds.{list_all-append}
use Rattle.ls_object.specs.ObjectText.{escaped, barred_text, name_text, is_bare, is_bare_char, is_barred_start}
use Rattle.ls_object.proofs.ReadingLemmas.{stops, is_end, same_head, same_tail, same_run, stops-is_end, end_apart}

-- a character that has a backslash before it between bars
abbrev is_escaped : ℕ → Bool
is_escaped c = (c == 124) || (c == 92)

-- a character between bars, where it is known whether it has a backslash before it
abbrev escaped_by : Bool → ℕ → List ℕ
escaped_by b c = cond b (92 ∷ c ∷ []) (c ∷ [])

-- a bar is none without a backslash before it, nor is a backslash
bare_apart : (c x : ℕ) → is_escaped x ≡ true → false ≡ is_escaped c → x ≡ c → ⊥
bare_apart c x h e same = true≢false (sym h ∙ ap is_escaped same ∙ sym e)

-- two characters between bars, each with what is behind it
same_escaped_char : (b d : Bool) (x y : ℕ) (r s : List ℕ) → b ≡ is_escaped x → d ≡ is_escaped y → escaped_by b x ++ r ≡ escaped_by d y ++ s → (x ≡ y) × (r ≡ s)
same_escaped_char true true x y r s e f h =
    let rest = same_tail 92 92 (x ∷ r) (y ∷ s) h in
    (same_head x y r s rest, same_tail x y r s rest)
same_escaped_char true false x y r s e f h = absurd (bare_apart y 92 refl f (same_head 92 y (x ∷ r) s h))
same_escaped_char false true x y r s e f h = absurd (bare_apart x 92 refl e (sym (same_head x 92 r (y ∷ s) h)))
same_escaped_char false false x y r s e f h = (same_head x y r s h, same_tail x y r s h)

-- a bar is no character between bars
bar_apart : (d : Bool) (y : ℕ) (r s : List ℕ) → d ≡ is_escaped y → 124 ∷ r ≡ escaped_by d y ++ s → ⊥
bar_apart true y r s f h = absurd (omega (arith, same_head 124 92 r (y ∷ s) h))
bar_apart false y r s f h = bare_apart y 124 refl f (same_head 124 y r s h)

-- two names between bars
same_barred : (a b r s : List ℕ) → flat_map escaped a ++ 124 ∷ r ≡ flat_map escaped b ++ 124 ∷ s → (a ≡ b) × (r ≡ s)
same_barred [] [] r s h = (refl, same_tail 124 124 r s h)
same_barred [] (y ∷ b) r s h = absurd (bar_apart (is_escaped y) y r (flat_map escaped b ++ 124 ∷ s) refl (h ∙ append_assoc (escaped y) (flat_map escaped b) (124 ∷ s)))
same_barred (x ∷ a) [] r s h = absurd (bar_apart (is_escaped x) x s (flat_map escaped a ++ 124 ∷ r) refl (sym h ∙ append_assoc (escaped x) (flat_map escaped a) (124 ∷ r)))
same_barred (x ∷ a) (y ∷ b) r s h =
    let both = same_escaped_char (is_escaped x) (is_escaped y) x y (flat_map escaped a ++ 124 ∷ r) (flat_map escaped b ++ 124 ∷ s) refl refl
    (sym (append_assoc (escaped x) (flat_map escaped a) (124 ∷ r)) ∙ h ∙ append_assoc (escaped y) (flat_map escaped b) (124 ∷ s)) in
    let rest = same_barred a b r s both.1 in
    (cc (both.0, rest.0), rest.1)

-- what stands directly behind a symbol's text: the end of a structure, or nothing
abbrev pub close : Bool → List ℕ
close true = codes ">"
close false = []

-- a character that a name's text begins with
abbrev pub is_name_start : ℕ → Bool
is_name_start c = (c == 124) || (is_bare_char c && not (is_barred_start c))

-- a bare name's characters
bare_chars : (n : List ℕ) → is_bare n ≡ true → list_all is_bare_char n ≡ true
bare_chars [] h = refl
bare_chars (c ∷ cs) h = (and_parts (not (is_barred_start c)) (list_all is_bare_char (c ∷ cs)) h).1

-- a bare name begins as a name does
bare_start : (n t : List ℕ) (c : ℕ) (u : List ℕ) → is_bare n ≡ true → n ++ t ≡ c ∷ u → is_name_start c ≡ true
bare_start [] t c u h e = absurd (true≢false (sym h))
bare_start (x ∷ xs) t c u h e =
    let parts = and_parts (not (is_barred_start x)) (list_all is_bare_char (x ∷ xs)) h in
    let bare = (and_parts (is_bare_char x) (list_all is_bare_char xs) parts.1).0 in
    subst (λ y. is_name_start y ≡ true) (same_head x c (xs ++ t) u e) (or_right (x == 124) (is_bare_char x && not (is_barred_start x)) (and_from (is_bare_char x) (not (is_barred_start x)) bare parts.0))

-- a bar is no bare character
bar_not_bare : (n t u : List ℕ) → is_bare n ≡ true → n ++ t ≡ 124 ∷ u → ⊥
bar_not_bare [] t u h e = true≢false (sym h)
bar_not_bare (x ∷ xs) t u h e =
    let bare = (and_parts (is_bare_char x) (list_all is_bare_char xs) (bare_chars (x ∷ xs) h)).0 in
    true≢false (sym bare ∙ ap is_bare_char (same_head x 124 (xs ++ t) u e))

-- a name's text, where it is known whether the name is bare
abbrev name_by : Bool → List ℕ → List ℕ
name_by b cs = cond b cs (barred_text cs)

-- the text of a barred name and what is behind it
barred_whole : (cs t : List ℕ) → barred_text cs ++ t ≡ 124 ∷ (flat_map escaped cs ++ 124 ∷ t)
barred_whole cs t = ap (λ u. 124 ∷ u) (append_assoc (flat_map escaped cs) (codes "|") t)

-- a name begins as a name does
name_start_by : (b : Bool) (n t : List ℕ) (c : ℕ) (u : List ℕ) → is_bare n ≡ b → name_by b n ++ t ≡ c ∷ u → is_name_start c ≡ true
name_start_by true n t c u h e = bare_start n t c u h e
name_start_by false n t c u h e =
    subst (λ y. is_name_start y ≡ true) (same_head 124 c (flat_map escaped n ++ 124 ∷ t) u (sym (barred_whole n t) ∙ e)) refl

pub name_start : (n t : List ℕ) (c : ℕ) (u : List ℕ) → name_text n ++ t ≡ c ∷ u → is_name_start c ≡ true
name_start n t c u e = name_start_by (is_bare n) n t c u refl e

-- a bare name may have the end of a structure behind it, which is a bare character
bare_close : (b : Bool) (n : List ℕ) → is_bare n ≡ true → list_all is_bare_char (n ++ close b) ≡ true
bare_close true n h = list_all-append is_bare_char n (codes ">") ∙ and_from (list_all is_bare_char n) true (bare_chars n h) refl
bare_close false n h = list_all-append is_bare_char n [] ∙ and_from (list_all is_bare_char n) true (bare_chars n h) refl

-- two names with the same behind them, up to a character that no bare name has
same_name_by : (c d b : Bool) (n m r s : List ℕ) → is_bare n ≡ c → is_bare m ≡ d → stops is_bare_char r ≡ true → stops is_bare_char s ≡ true → name_by c n ++ close b ++ r ≡ name_by d m ++ close b ++ s → (n ≡ m) × (r ≡ s)
same_name_by true true b n m r s h k hr hs e =
    let both = same_run is_bare_char (n ++ close b) (m ++ close b) r s (bare_close b n h) (bare_close b m k) hr hs e in
    (append_cancel_right n m (close b) both.0, both.1)
same_name_by true false b n m r s h k hr hs e =
    absurd (bar_not_bare n (close b ++ r) (flat_map escaped m ++ 124 ∷ (close b ++ s)) h (sym (append_assoc n (close b) r) ∙ e ∙ append_assoc (barred_text m) (close b) s ∙ barred_whole m (close b ++ s)))
same_name_by false true b n m r s h k hr hs e =
    absurd (bar_not_bare m (close b ++ s) (flat_map escaped n ++ 124 ∷ (close b ++ r)) k (sym (append_assoc m (close b) s) ∙ sym e ∙ append_assoc (barred_text n) (close b) r ∙ barred_whole n (close b ++ r)))
same_name_by false false b n m r s h k hr hs e =
    let whole = sym (barred_whole n (close b ++ r)) ∙ sym (append_assoc (barred_text n) (close b) r) ∙ e ∙ append_assoc (barred_text m) (close b) s ∙ barred_whole m (close b ++ s) in
    let both = same_barred n m (close b ++ r) (close b ++ s) (same_tail 124 124 (flat_map escaped n ++ 124 ∷ (close b ++ r)) (flat_map escaped m ++ 124 ∷ (close b ++ s)) whole) in
    (both.0, append_cancel_left (close b) r s both.1)

pub same_name : (b : Bool) (n m r s : List ℕ) → stops is_bare_char r ≡ true → stops is_bare_char s ≡ true → name_text n ++ close b ++ r ≡ name_text m ++ close b ++ s → (n ≡ m) × (r ≡ s)
same_name b n m r s hr hs e = same_name_by (is_bare n) (is_bare m) b n m r s refl refl hr hs e

-- the end of a structure, or an end, is no colon
close_apart : (b : Bool) (r s : List ℕ) → is_end r ≡ true → close b ++ r ≡ 58 ∷ s → ⊥
close_apart true r s h e = absurd (omega (arith, same_head 62 58 r s e))
close_apart false r s h e = end_apart r 58 s h e refl

-- a name is no front of a name with a colon behind it
name_apart_by : (c d b : Bool) (n m r s : List ℕ) → is_bare n ≡ c → is_bare m ≡ d → is_end r ≡ true → name_by c n ++ close b ++ r ≡ name_by d m ++ 58 ∷ s → ⊥
name_apart_by true true b n m r s h k hr e =
    let both = same_run is_bare_char (n ++ close b) m r (58 ∷ s) (bare_close b n h) (bare_chars m k) (stops-is_end is_bare_char r refl refl hr) refl e in
    end_apart r 58 s hr both.1 refl
name_apart_by true false b n m r s h k hr e =
    bar_not_bare n (close b ++ r) (flat_map escaped m ++ 124 ∷ 58 ∷ s) h (sym (append_assoc n (close b) r) ∙ e ∙ barred_whole m (58 ∷ s))
name_apart_by false true b n m r s h k hr e =
    bar_not_bare m (58 ∷ s) (flat_map escaped n ++ 124 ∷ (close b ++ r)) k (sym e ∙ append_assoc (barred_text n) (close b) r ∙ barred_whole n (close b ++ r))
name_apart_by false false b n m r s h k hr e =
    let whole = sym (barred_whole n (close b ++ r)) ∙ sym (append_assoc (barred_text n) (close b) r) ∙ e ∙ barred_whole m (58 ∷ s) in
    close_apart b r s hr (same_barred n m (close b ++ r) (58 ∷ s) (same_tail 124 124 (flat_map escaped n ++ 124 ∷ (close b ++ r)) (flat_map escaped m ++ 124 ∷ 58 ∷ s) whole)).1

pub name_apart : (b : Bool) (n m r s : List ℕ) → is_end r ≡ true → name_text n ++ close b ++ r ≡ name_text m ++ 58 ∷ s → ⊥
name_apart b n m r s hr e = name_apart_by (is_bare n) (is_bare m) b n m r s refl refl hr e
