-- Extents as tests, and what the meeting of two extents holds.
use Rattle.std.proofs.Common.{ℕ, ℤ, ◌≡◌, ◌≤ℤ◌, refl, ap, sym, subst, ◌∙◌, ◌↔◌, [], ◌++◌, codes, Bool, true, false, true≢false, inl, inr, ◌&&◌, ◌==◌, int_le, nat_le, nat_lt, if◌then◌else◌, Decides, arith}
use Rattle.std.proofs.lemmas.Bool.{and_parts, cases_Bool}
use Rattle.std.proofs.lemmas.Bool.Decides.{Decides-and, Decides-int_eq, Decides-eqb, Decides-ltb}
use Rattle.std.proofs.lemmas.Int.{ints}
use Rattle.ls_object.specs.declared.kind.Kind.{Kind}
use Rattle.ls_object.specs.ObjectText.{kind_text}
use Rattle.ls_object.specs.Universe.{LispShape, number, character, opaque}
use Rattle.ls_object.specs.Table.{Extent, nothing, integers, characters, one_kind, everything, IsWithin}
use Rattle.ls_object.proofs.ArrayTextLemmas.{same_kind}
use Rattle.ls_object.proofs.SymbolLemmas.{Decides-text}
use Rattle.ls_tables.specs.steps.Meeting as meeting

-- a kind is determined by its name
named_alike : (j k : Kind) → kind_text j ≡ kind_text k → j ≡ k
named_alike j k e = (same_kind j k [] [] refl refl (ap (λ t. t ++ codes ">" ++ []) e)).0

pub Decides-kind : (j k : Kind) → Decides (meeting.same_kind j k) (j ≡ k)
Decides-kind j k = (
  λ e. named_alike j k ((Decides-text (kind_text j) (kind_text k)).0 e),
  λ e. (Decides-text (kind_text j) (kind_text k)).1 (ap kind_text e),
)

-- whether the extent has the objects of this shape
abbrev pub has : Extent → LispShape → Bool
has nothing s = false
has (integers lo hi) (number n d) = (d == 1) && (int_le lo n && int_le n hi)
has (characters limit) (character c) = nat_lt c limit
has (one_kind k) (opaque j) = meeting.same_kind j k
has everything s = true
has x s = false

Decides-le : (a b : ℤ) → Decides (int_le a b) (a ≤ℤ b)
Decides-le a b = (λ e. grind arith, λ l. grind arith)

Decides-never : Decides false ⊥
Decides-never = (λ e. cc, λ h. absurd h)

-- three tests, of which the last two are joined first
Decides-three : {P Q R : Type 0} (x y z : Bool) → Decides x P → Decides y Q → Decides z R → Decides (x && (y && z)) (P × Q × R)
Decides-three x y z p q r =
    let both = Decides-and x (y && z) p (Decides-and y z q r) in
    (λ e. let h = both.0 e in (h.0, h.1.0, h.1.1), λ h. both.1 (h.0, (h.1, h.2)))

pub Decides-has : (x : Extent) (s : LispShape) → Decides (has x s) (IsWithin x s)
Decides-has nothing s = Decides-never
Decides-has (integers lo hi) (number n d) = Decides-three _ _ _ (Decides-eqb d 1) (Decides-le lo n) (Decides-le n hi)
Decides-has (characters limit) (character c) = Decides-ltb c limit
Decides-has (one_kind k) (opaque j) = Decides-kind j k
Decides-has everything s = (λ e. tt, λ h. refl)
Decides-has (integers lo hi) s = Decides-never
Decides-has (characters limit) s = Decides-never
Decides-has (one_kind k) s = Decides-never

-- ---- what the meeting of two extents has

-- integers between the greater of two and the lesser of two
between_both : (a b c d n : ℤ) (e : ℕ) → has (meeting.integers_between (if int_le a c then c else a) (if int_le b d then b else d)) (number n e) ≡ (((e == 1) && (int_le a n && int_le n b)) && ((e == 1) && (int_le c n && int_le n d)))
between_both a b c d n e = grind (arith, ints)

-- integers, if there are any, are no other objects
no_integer : (lo hi : ℤ) (s : LispShape) (t : Bool) → has (integers lo hi) s ≡ false → has (if t then integers lo hi else nothing) s ≡ false
no_integer lo hi s true h = h
no_integer lo hi s false h = refl

-- characters below both of two numbers
below_both : (m n c : ℕ) → nat_lt c (if nat_le m n then m else n) ≡ (nat_lt c m && nat_lt c n)
below_both m n c = grind (arith, ints)

-- a test and itself, a true one and a false one
and_same : (b : Bool) → b ≡ (b && b)
and_same true = refl
and_same false = refl

and_true : (b : Bool) → b ≡ (b && true)
and_true true = refl
and_true false = refl

and_false : (b : Bool) → false ≡ (b && false)
and_false true = refl
and_false false = refl

-- opaque objects of both of two kinds
both_cases : (j k i : Kind) (t : Bool) → meeting.same_kind j k ≡ t → has (if t then one_kind j else nothing) (opaque i) ≡ (meeting.same_kind i j && meeting.same_kind i k)
both_cases j k i true e =
    let f : j ≡ k = (Decides-kind j k).0 e in
    subst (λ l. meeting.same_kind i j ≡ (meeting.same_kind i j && meeting.same_kind i l)) f (and_same (meeting.same_kind i j))
both_cases j k i false e = elim (cases_Bool (meeting.same_kind i j && meeting.same_kind i k)) [
  | inl h ↦ (
      let parts = and_parts (meeting.same_kind i j) (meeting.same_kind i k) h in
      absurd (true≢false (sym ((Decides-kind j k).1 (sym ((Decides-kind i j).0 parts.0) ∙ (Decides-kind i k).0 parts.1)) ∙ e))
      )
  | inr h ↦ sym h
]

-- opaque objects of one kind, if there are any, are no other objects
no_other : (k : Kind) (s : LispShape) (t : Bool) → has (one_kind k) s ≡ false → has (if t then one_kind k else nothing) s ≡ false
no_other k s true h = h
no_other k s false h = refl

-- the meeting of two extents has what both have
has_meeting : (x y : Extent) (s : LispShape) → has (meeting.meeting x y) s ≡ (has x s && has y s)
unfolding meeting.meeting
has_meeting everything y s = refl
has_meeting x everything s = and_true (has x s)
has_meeting nothing y s = refl
has_meeting x nothing s = and_false (has x s)
has_meeting (integers a b) (integers c d) (number n e) = between_both a b c d n e
has_meeting (integers a b) (integers c d) s = no_integer _ _ s _ refl
has_meeting (characters m) (characters n) (character c) = below_both m n c
has_meeting (one_kind j) (one_kind k) (opaque i) = both_cases j k i (meeting.same_kind j k) refl
has_meeting (one_kind j) (one_kind k) s = no_other j s _ refl
has_meeting (integers a b) y (number n e) = and_false _
has_meeting (characters m) y (character c) = and_false _
has_meeting (one_kind j) y (opaque i) = and_false _
has_meeting x y s = refl

-- equal extents
pub same_extents : (x y : Extent) → meeting.same_extent x y ≡ true → x ≡ y
same_extents nothing nothing h = refl
same_extents everything everything h = refl
same_extents (integers a b) (integers c d) h =
    let parts = and_parts _ _ h in
    let p : a ≡ c = (Decides-int_eq a c).0 parts.0 in
    let q : b ≡ d = (Decides-int_eq b d).0 parts.1 in
    cc (p, q)
same_extents (characters m) (characters n) h = ap characters ((Decides-eqb m n).0 h)
same_extents (one_kind j) (one_kind k) h = ap one_kind ((Decides-kind j k).0 h)
same_extents x y h = absurd (cc)

-- the meeting holds exactly what both hold
pub meeting_holds : (x y : Extent) (s : LispShape) → IsWithin (meeting.meeting x y) s ↔ (IsWithin x s × IsWithin y s)
meeting_holds x y s =
    let m = Decides-has (meeting.meeting x y) s in
    let both = Decides-and _ _ (Decides-has x s) (Decides-has y s) in
    let e = has_meeting x y s in
    (λ h. both.0 (sym e ∙ m.1 h), λ h. m.0 (e ∙ both.1 h))
