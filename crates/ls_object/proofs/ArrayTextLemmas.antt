-- Kinds and arrays: no two have one text.
use Rattle.std.proofs.Common.{ℕ, ◌≡◌, ◌<◌, Bool, true, false, not, ◌==◌, ◌&&◌, if◌then◌else◌, List, [], ◌∷◌, ◌++◌, codes, refl, sym, ap, ◌∙◌, append_assoc, arith}
use Rattle.std.specs.List.{list_all, flat_map, position_or_len}
use Rattle.std.proofs.lemmas.Bool.{true≢false, and_parts, agree_below_at, eqb-true, eq-eqb, and_from}
use Rattle.std.proofs.lemmas.List.{append_cancel_left, append_cancel_right}
use Rattle.ls_object.specs.declared.kind.Kind.{Kind}
use Rattle.ls_object.specs.declared.kind.Kind.TheVariants.{SingleFloat, DoubleFloat, Complex, Function, CompiledFunction, HashTable, Readtable, Package, Pathname, LogicalPathname, Stream, RandomState, Condition, Restart, OtherStructure, Other}
use Rattle.ls_object.specs.declared.table.TheConstants.{UPGRADING_TABLE, TABLE_LEN}
use Rattle.ls_object.specs.ObjectText.{natural_text, is_bare_char, is_digit, is_text, kind_text, entry_text, code_text, spaced, dimensions_text, simple_text, array_text}
use Rattle.ls_object.specs.Writing.{after_space}
use Rattle.ls_object.proofs.ReadingLemmas.{stops, is_end, same_head, same_tail, same_run, stops-is_end}
use Rattle.ls_object.proofs.NumberTextLemmas.{same_natural, natural_start}

-- the kind that a name stands for
abbrev read_kind : List ℕ → Kind
read_kind t =
    if is_text t (codes "SINGLE-FLOAT") then SingleFloat else (if is_text t (codes "DOUBLE-FLOAT") then DoubleFloat
    else (if is_text t (codes "COMPLEX") then Complex else (if is_text t (codes "FUNCTION") then Function
    else (if is_text t (codes "COMPILED-FUNCTION") then CompiledFunction else (if is_text t (codes "HASH-TABLE") then HashTable
    else (if is_text t (codes "READTABLE") then Readtable else (if is_text t (codes "PACKAGE") then Package
    else (if is_text t (codes "PATHNAME") then Pathname else (if is_text t (codes "LOGICAL-PATHNAME") then LogicalPathname
    else (if is_text t (codes "STREAM") then Stream else (if is_text t (codes "RANDOM-STATE") then RandomState
    else (if is_text t (codes "CONDITION") then Condition else (if is_text t (codes "RESTART") then Restart
    else (if is_text t (codes "OTHER-STRUCTURE") then OtherStructure else Other))))))))))))))

-- a kind is read back from its name
read_kind-kind_text : (k : Kind) → read_kind (kind_text k) ≡ k
read_kind-kind_text SingleFloat = refl
read_kind-kind_text _ = refl

-- a kind's name and the bracket behind it are bare characters
bare_kind : (k : Kind) → list_all is_bare_char (kind_text k ++ codes ">") ≡ true
bare_kind SingleFloat = refl
bare_kind _ = refl

-- two kinds, up to the end of an object
pub same_kind : (k j : Kind) (r s : List ℕ) → is_end r ≡ true → is_end s ≡ true → kind_text k ++ codes ">" ++ r ≡ kind_text j ++ codes ">" ++ s → (k ≡ j) × (r ≡ s)
same_kind k j r s hr hs e =
    let both = same_run is_bare_char (kind_text k ++ codes ">") (kind_text j ++ codes ">") r s (bare_kind k) (bare_kind j) (stops-is_end is_bare_char r refl refl hr) (stops-is_end is_bare_char s refl refl hs) e in
    let names = append_cancel_right (kind_text k) (kind_text j) (codes ">") both.0 in
    (sym (read_kind-kind_text k) ∙ ap read_kind names ∙ read_kind-kind_text j, both.1)

-- no space of the text stands before an opening bracket, and none stands at its end
abbrev has_no_gap : List ℕ → Bool
has_no_gap [] = true
has_no_gap (c ∷ []) = not (c == 32)
has_no_gap (c ∷ d ∷ cs) = not ((c == 32) && (d == 40)) && has_no_gap (d ∷ cs)

-- the same of the text without its first character
has_no_gap-tail : (c : ℕ) (cs : List ℕ) → has_no_gap (c ∷ cs) ≡ true → has_no_gap cs ≡ true
has_no_gap-tail c [] h = refl
has_no_gap-tail c (d ∷ cs) h = (and_parts (not ((c == 32) && (d == 40))) (has_no_gap (d ∷ cs)) h).1

-- a text with no gap doesn't begin with one, whatever stands behind it
gap_apart : (u r s : List ℕ) → has_no_gap u ≡ true → (u ≡ [] → ⊥) → 32 ∷ 40 ∷ r ≡ u ++ 32 ∷ 40 ∷ s → ⊥
gap_apart [] r s h some e = some refl
gap_apart (y ∷ []) r s h some e = absurd (omega (arith, same_head 40 32 r (40 ∷ s) (same_tail 32 y (40 ∷ r) (32 ∷ 40 ∷ s) e)))
gap_apart (y ∷ z ∷ u) r s h some e =
    let first = same_head 32 y (40 ∷ r) (z ∷ (u ++ 32 ∷ 40 ∷ s)) e in
    let second = same_head 40 z r (u ++ 32 ∷ 40 ∷ s) (same_tail 32 y (40 ∷ r) (z ∷ (u ++ 32 ∷ 40 ∷ s)) e) in
    let gap = and_from (y == 32) (z == 40) (eq-eqb y 32 (sym first)) (eq-eqb z 40 (sym second)) in
    true≢false (sym (and_parts (not ((y == 32) && (z == 40))) (has_no_gap (z ∷ u)) h).0 ∙ ap not gap)

-- two texts with no gap, each with a gap behind it
same_before_gap : (t u r s : List ℕ) → has_no_gap t ≡ true → has_no_gap u ≡ true → t ++ 32 ∷ 40 ∷ r ≡ u ++ 32 ∷ 40 ∷ s → (t ≡ u) × (r ≡ s)
same_before_gap [] [] r s ht hu e = (refl, same_tail 40 40 r s (same_tail 32 32 (40 ∷ r) (40 ∷ s) e))
same_before_gap [] (y ∷ u) r s ht hu e = absurd (gap_apart (y ∷ u) r s hu (λ k. absurd (cc k)) e)
same_before_gap (x ∷ t) [] r s ht hu e = absurd (gap_apart (x ∷ t) s r ht (λ k. absurd (cc k)) (sym e))
same_before_gap (x ∷ t) (y ∷ u) r s ht hu e =
    let both = same_before_gap t u r s (has_no_gap-tail x t ht) (has_no_gap-tail y u hu) (same_tail x y (t ++ 32 ∷ 40 ∷ r) (u ++ 32 ∷ 40 ∷ s) e) in
    let first = same_head x y (t ++ 32 ∷ 40 ∷ r) (u ++ 32 ∷ 40 ∷ s) e in
    (cc (first, both.0), both.1)

-- the place of the table whose entry has this text
abbrev read_code : List ℕ → ℕ
read_code t = position_or_len (λ entry. is_text (entry_text entry) t) UPGRADING_TABLE

-- the text of a place has no gap, and the place is read back from it
abbrev is_read_back : ℕ → Bool
is_read_back code = has_no_gap (code_text code) && (read_code (code_text code) == code)

codes_read_back : (code : ℕ) → code < TABLE_LEN → is_read_back code ≡ true
unfolding natural_text
codes_read_back code h = agree_below_at is_read_back (λ _. true) TABLE_LEN code refl h

-- two places of the table, each with a gap behind it
same_code : (c d : ℕ) (r s : List ℕ) → c < TABLE_LEN → d < TABLE_LEN → code_text c ++ 32 ∷ 40 ∷ r ≡ code_text d ++ 32 ∷ 40 ∷ s → (c ≡ d) × (r ≡ s)
same_code c d r s hc hd e =
    let first = and_parts (has_no_gap (code_text c)) (read_code (code_text c) == c) (codes_read_back c hc) in
    let second = and_parts (has_no_gap (code_text d)) (read_code (code_text d) == d) (codes_read_back d hd) in
    let both = same_before_gap (code_text c) (code_text d) r s first.0 second.0 e in
    (sym (eqb-true (read_code (code_text c)) c first.1) ∙ ap read_code both.0 ∙ eqb-true (read_code (code_text d)) d second.1, both.1)

-- what stands behind a dimension is no digit
dimension_ends : (ns r : List ℕ) → stops is_digit (flat_map after_space ns ++ 41 ∷ r) ≡ true
dimension_ends [] r = refl
dimension_ends (n ∷ ns) r = refl

-- dimensions behind the first, up to a closing bracket
same_later_dimensions : (ns ms r s : List ℕ) → flat_map after_space ns ++ 41 ∷ r ≡ flat_map after_space ms ++ 41 ∷ s → (ns ≡ ms) × (r ≡ s)
same_later_dimensions [] [] r s e = (refl, same_tail 41 41 r s e)
same_later_dimensions [] (m ∷ ms) r s e = absurd (omega (arith, same_head 41 32 r (natural_text m ++ flat_map after_space ms ++ 41 ∷ s) e))
same_later_dimensions (n ∷ ns) [] r s e = absurd (omega (arith, same_head 32 41 (natural_text n ++ flat_map after_space ns ++ 41 ∷ r) s e))
same_later_dimensions (n ∷ ns) (m ∷ ms) r s e =
    let tails = same_tail 32 32 (natural_text n ++ flat_map after_space ns ++ 41 ∷ r) (natural_text m ++ flat_map after_space ms ++ 41 ∷ s) e in
    let first = same_natural n m (flat_map after_space ns ++ 41 ∷ r) (flat_map after_space ms ++ 41 ∷ s) (dimension_ends ns r) (dimension_ends ms s)
    (sym (append_assoc (natural_text n) (flat_map after_space ns) (41 ∷ r)) ∙ tails ∙ append_assoc (natural_text m) (flat_map after_space ms) (41 ∷ s)) in
    let later = same_later_dimensions ns ms r s first.1 in
    (cc (first.0, later.0), later.1)

-- dimensions, up to a closing bracket
same_dimensions : (ns ms r s : List ℕ) → spaced ns ++ 41 ∷ r ≡ spaced ms ++ 41 ∷ s → (ns ≡ ms) × (r ≡ s)
same_dimensions [] [] r s e = (refl, same_tail 41 41 r s e)
same_dimensions [] (m ∷ ms) r s e =
    absurd (true≢false (sym (natural_start m (flat_map after_space ms ++ 41 ∷ s) 41 r (sym (append_assoc (natural_text m) (flat_map after_space ms) (41 ∷ s)) ∙ sym e))))
same_dimensions (n ∷ ns) [] r s e =
    absurd (true≢false (sym (natural_start n (flat_map after_space ns ++ 41 ∷ r) 41 s (sym (append_assoc (natural_text n) (flat_map after_space ns) (41 ∷ r)) ∙ e))))
same_dimensions (n ∷ ns) (m ∷ ms) r s e =
    let first = same_natural n m (flat_map after_space ns ++ 41 ∷ r) (flat_map after_space ms ++ 41 ∷ s) (dimension_ends ns r) (dimension_ends ms s)
    (sym (append_assoc (natural_text n) (flat_map after_space ns) (41 ∷ r)) ∙ e ∙ append_assoc (natural_text m) (flat_map after_space ms) (41 ∷ s)) in
    let later = same_later_dimensions ns ms r s first.1 in
    (cc (first.0, later.0), later.1)

-- whether an array is simple, up to the bracket that ends it
same_simple : (a b : Bool) (r s : List ℕ) → simple_text a ++ 62 ∷ r ≡ simple_text b ++ 62 ∷ s → (a ≡ b) × (r ≡ s)
same_simple true true r s e = (refl, same_tail 62 62 r s (append_cancel_left (codes " SIMPLE") (62 ∷ r) (62 ∷ s) e))
same_simple true false r s e = absurd (omega (arith, same_head 32 62 (codes "SIMPLE>" ++ r) s e))
same_simple false true r s e = absurd (omega (arith, same_head 62 32 r (codes "SIMPLE>" ++ s) e))
same_simple false false r s e = (refl, same_tail 62 62 r s e)

-- an array's text and what is behind it
array_whole : (code : ℕ) (simple : Bool) (dims t : List ℕ) → array_text code simple dims ++ t ≡ codes "#<ARRAY " ++ (code_text code ++ 32 ∷ 40 ∷ (spaced dims ++ 41 ∷ (simple_text simple ++ 62 ∷ t)))
array_whole code simple dims t =
    let head = codes "#<ARRAY " ++ code_text code in
    append_assoc (head ++ codes " " ++ dimensions_text dims ++ simple_text simple) (codes ">") t
    ∙ append_assoc (head ++ codes " " ++ dimensions_text dims) (simple_text simple) (62 ∷ t)
    ∙ append_assoc (head ++ codes " ") (dimensions_text dims) (simple_text simple ++ 62 ∷ t)
    ∙ append_assoc head (codes " ") (dimensions_text dims ++ (simple_text simple ++ 62 ∷ t))
    ∙ append_assoc (codes "#<ARRAY ") (code_text code) (32 ∷ (dimensions_text dims ++ (simple_text simple ++ 62 ∷ t)))
    ∙ ap (λ u. codes "#<ARRAY " ++ (code_text code ++ 32 ∷ u)) (append_assoc (codes "(" ++ spaced dims) (codes ")") (simple_text simple ++ 62 ∷ t))

-- two arrays with one text, up to the end of an object
pub same_array : (c d : ℕ) (a b : Bool) (ns ms r s : List ℕ) → c < TABLE_LEN → d < TABLE_LEN → array_text c a ns ++ r ≡ array_text d b ms ++ s → (c ≡ d) × (a ≡ b) × (ns ≡ ms) × (r ≡ s)
same_array c d a b ns ms r s hc hd e =
    let behind = λ (ks : List ℕ) (simple : Bool) (t : List ℕ). spaced ks ++ 41 ∷ (simple_text simple ++ 62 ∷ t) in
    let inner = append_cancel_left (codes "#<ARRAY ") (code_text c ++ 32 ∷ 40 ∷ behind ns a r) (code_text d ++ 32 ∷ 40 ∷ behind ms b s) (sym (array_whole c a ns r) ∙ e ∙ array_whole d b ms s) in
    let code = same_code c d (behind ns a r) (behind ms b s) hc hd inner in
    let dims = same_dimensions ns ms (simple_text a ++ 62 ∷ r) (simple_text b ++ 62 ∷ s) code.1 in
    let simple = same_simple a b r s dims.1 in
    (code.0, simple.0, dims.0, simple.1)
