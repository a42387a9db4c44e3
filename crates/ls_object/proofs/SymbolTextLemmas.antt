-- Symbols: no two have one text.
use Rattle.std.proofs.Common.{ℕ, ◌≡◌, Bool, true, false, cond, List, ◌∷◌, ◌++◌, codes, refl, sym, ap, ◌∙◌, subst, append_assoc, append-nil, ◌==◌, ◌||◌}
use Rattle.std.proofs.lemmas.Bool.{true≢false, or_right}
use Rattle.ls_object.specs.declared.symbol.Symbol.{Symbol}
use Rattle.ls_object.specs.ObjectText.{name_text, is_bare_char, is_text, symbol_text, keyword_text, qualified_text}
use Rattle.ls_object.proofs.SymbolLemmas.{Decides-text}
use Rattle.ls_object.proofs.ReadingLemmas.{is_end, same_head, same_tail, stops-is_end}
use Rattle.ls_object.proofs.NameTextLemmas.{close, is_name_start, name_start, same_name, name_apart}

-- two texts that are one by test
pub same_text : (a b : List ℕ) → is_text a b ≡ true → a ≡ b
same_text a b h = (Decides-text a b).0 h

-- a text is itself by test
pub text_itself : (a b : List ℕ) → a ≡ b → is_text a b ≡ true
text_itself a b e = (Decides-text a b).1 e

-- a symbol's text, where it is known whether its package is COMMON-LISP or KEYWORD
abbrev symbol_by : Bool → Bool → List ℕ → List ℕ → List ℕ
symbol_by common keyword package_name name = cond common (name_text name) (cond keyword (keyword_text name) (qualified_text package_name name))

-- the text of a symbol with its package, and what is behind it
qualified_whole : (package_name name t : List ℕ) (b : Bool) → qualified_text package_name name ++ close b ++ t ≡ name_text package_name ++ 58 ∷ 58 ∷ (name_text name ++ close b ++ t)
qualified_whole package_name name t b =
    append_assoc (name_text package_name ++ codes "::" ++ name_text name) (close b) t
    ∙ append_assoc (name_text package_name ++ codes "::") (name_text name) (close b ++ t)
    ∙ append_assoc (name_text package_name) (codes "::") (name_text name ++ (close b ++ t))
    ∙ ap (λ u. name_text package_name ++ 58 ∷ 58 ∷ u) (sym (append_assoc (name_text name) (close b) t))

-- a name doesn't begin with a colon
colon_apart : (n t u : List ℕ) → name_text n ++ t ≡ 58 ∷ u → ⊥
colon_apart n t u e = true≢false (sym (name_start n t 58 u e))

-- two symbols, by what is known of their packages
one_symbol_by : (c k d l b : Bool) (p n q m r s : List ℕ) → is_text p (codes "COMMON-LISP") ≡ c → is_text p (codes "KEYWORD") ≡ k → is_text q (codes "COMMON-LISP") ≡ d → is_text q (codes "KEYWORD") ≡ l → is_end r ≡ true → is_end s ≡ true
    → symbol_by c k p n ++ close b ++ r ≡ symbol_by d l q m ++ close b ++ s → (p ≡ q) × (n ≡ m) × (r ≡ s)
one_symbol_by true k true l b p n q m r s pc pk qc ql hr hs e =
    let both = same_name b n m r s (stops-is_end is_bare_char r refl refl hr) (stops-is_end is_bare_char s refl refl hs) e in
    (same_text p (codes "COMMON-LISP") pc ∙ sym (same_text q (codes "COMMON-LISP") qc), both.0, both.1)
one_symbol_by true k false true b p n q m r s pc pk qc ql hr hs e =
    absurd (colon_apart n (close b ++ r) (name_text m ++ close b ++ s) (sym (append_assoc (name_text n) (close b) r) ∙ e))
one_symbol_by true k false false b p n q m r s pc pk qc ql hr hs e =
    absurd (name_apart b n q r (58 ∷ (name_text m ++ close b ++ s)) hr (e ∙ qualified_whole q m s b))
one_symbol_by false true true l b p n q m r s pc pk qc ql hr hs e =
    absurd (colon_apart m (close b ++ s) (name_text n ++ close b ++ r) (sym (append_assoc (name_text m) (close b) s) ∙ sym e))
one_symbol_by false true false true b p n q m r s pc pk qc ql hr hs e =
    let both = same_name b n m r s (stops-is_end is_bare_char r refl refl hr) (stops-is_end is_bare_char s refl refl hs) (same_tail 58 58 (name_text n ++ close b ++ r) (name_text m ++ close b ++ s) e) in
    (same_text p (codes "KEYWORD") pk ∙ sym (same_text q (codes "KEYWORD") ql), both.0, both.1)
one_symbol_by false true false false b p n q m r s pc pk qc ql hr hs e =
    absurd (colon_apart q (58 ∷ 58 ∷ (name_text m ++ close b ++ s)) (name_text n ++ close b ++ r) (sym (qualified_whole q m s b) ∙ sym e))
one_symbol_by false false true l b p n q m r s pc pk qc ql hr hs e =
    absurd (name_apart b m p s (58 ∷ (name_text n ++ close b ++ r)) hs (sym e ∙ qualified_whole p n r b))
one_symbol_by false false false true b p n q m r s pc pk qc ql hr hs e =
    absurd (colon_apart p (58 ∷ 58 ∷ (name_text n ++ close b ++ r)) (name_text m ++ close b ++ s) (sym (qualified_whole p n r b) ∙ e))
one_symbol_by false false false false b p n q m r s pc pk qc ql hr hs e =
    let rest = name_text n ++ close b ++ r in
    let other = name_text m ++ close b ++ s in
    let packages = same_name false p q (58 ∷ 58 ∷ rest) (58 ∷ 58 ∷ other) refl refl
    (ap (λ u. u ++ 58 ∷ 58 ∷ rest) (append-nil (name_text p)) ∙ sym (qualified_whole p n r b) ∙ e ∙ qualified_whole q m s b ∙ ap (λ u. u ++ 58 ∷ 58 ∷ other) (sym (append-nil (name_text q)))) in
    let names = same_name b n m r s (stops-is_end is_bare_char r refl refl hr) (stops-is_end is_bare_char s refl refl hs) (same_tail 58 58 rest other (same_tail 58 58 (58 ∷ rest) (58 ∷ other) packages.1)) in
    (packages.0, names.0, names.1)

-- two symbols with one text, up to the end of an object or of a structure
pub one_symbol : (b : Bool) (x y : Symbol) (r s : List ℕ) → is_end r ≡ true → is_end s ≡ true → symbol_text x ++ close b ++ r ≡ symbol_text y ++ close b ++ s → (x ≡ y) × (r ≡ s)
one_symbol b x y r s hr hs e =
    let parts = one_symbol_by (is_text x.package (codes "COMMON-LISP")) (is_text x.package (codes "KEYWORD")) (is_text y.package (codes "COMMON-LISP")) (is_text y.package (codes "KEYWORD")) b x.package x.name y.package y.name r s refl refl refl refl hr hs e in
    (λ i. record { «package» = parts.0 i; name = parts.1 i }, parts.2)

-- a symbol begins with a colon or as a name does
abbrev pub is_symbol_start : ℕ → Bool
is_symbol_start c = (c == 58) || is_name_start c

symbol_start_by : (c k : Bool) (p n t : List ℕ) (x : ℕ) (u : List ℕ) → symbol_by c k p n ++ t ≡ x ∷ u → is_symbol_start x ≡ true
symbol_start_by true k p n t x u e = or_right (x == 58) (is_name_start x) (name_start n t x u e)
symbol_start_by false true p n t x u e = subst (λ y. is_symbol_start y ≡ true) (same_head 58 x (name_text n ++ t) u e) refl
symbol_start_by false false p n t x u e =
    or_right (x == 58) (is_name_start x) (name_start p (codes "::" ++ name_text n ++ t) x u (sym (append_assoc (name_text p) (codes "::" ++ name_text n) t) ∙ ap (λ w. w ++ t) (sym (append_assoc (name_text p) (codes "::") (name_text n))) ∙ e))

pub symbol_start : (s : Symbol) (t : List ℕ) (x : ℕ) (u : List ℕ) → symbol_text s ++ t ≡ x ∷ u → is_symbol_start x ≡ true
symbol_start s t x u e = symbol_start_by (is_text s.package (codes "COMMON-LISP")) (is_text s.package (codes "KEYWORD")) s.package s.name t x u e
