-- Comments between `#|` and `|#`, which nest (2.4.8.19).
use Rattle.std.specs.Prelude.{ℕ, zero, suc, ◌≡◌, List, [], ◌∷◌, ◌++◌}
use Rattle.std.specs.List.{flat_map}

-- a part of a comment: `#|`, `|#`, or another character
pub data CommentPart : Type 0 where
  opens : CommentPart
  closes : CommentPart
  other : ℕ → CommentPart

-- how a part is written
abbrev pub part_text : CommentPart → List ℕ
part_text opens = 35 ∷ 124 ∷ []
part_text closes = 124 ∷ 35 ∷ []
part_text (other c) = c ∷ []

-- how parts are written
abbrev pub comment_text : List CommentPart → List ℕ
comment_text ms = flat_map part_text ms

-- the character comes first
abbrev pub ComesFirst : ℕ → List ℕ → Type 0
ComesFirst k [] = ⊥
ComesFirst k (c ∷ cs) = c ≡ k

-- the character is no part of `#|` or `|#` with what follows
abbrev pub IsApart : ℕ → List ℕ → Type 0
IsApart c cs = (c ≡ 124 → ComesFirst 35 cs → ⊥) × (c ≡ 35 → ComesFirst 124 cs → ⊥)

-- each `#|` and each `|#` that stands in the text of the parts, from left to right, is a part
abbrev pub ArePicked : List CommentPart → Type 0
ArePicked [] = Unit {0}
ArePicked (opens ∷ ms) = ArePicked ms
ArePicked (closes ∷ ms) = ArePicked ms
ArePicked (other c ∷ ms) = IsApart c (comment_text ms) × ArePicked ms

-- the parts end n comments that are begun before them, and each that begins in them
abbrev pub IsBalanced : ℕ → List CommentPart → Type 0
IsBalanced n [] = n ≡ 0
IsBalanced n (opens ∷ ms) = IsBalanced (suc n) ms
IsBalanced zero (closes ∷ ms) = ⊥
IsBalanced (suc n) (closes ∷ ms) = IsBalanced n ms
IsBalanced n (other c ∷ ms) = IsBalanced n ms

-- the parts stand between `#|` and the `|#` that ends the comment
abbrev pub IsComment : List CommentPart → Type 0
IsComment ms = IsBalanced 0 ms × ArePicked (ms ++ closes ∷ [])

-- the parts end no more than n comments that are begun before them
abbrev pub StayWithin : ℕ → List CommentPart → Type 0
StayWithin n [] = Unit {0}
StayWithin n (opens ∷ ms) = StayWithin (suc n) ms
StayWithin zero (closes ∷ ms) = ⊥
StayWithin (suc n) (closes ∷ ms) = StayWithin n ms
StayWithin n (other c ∷ ms) = StayWithin n ms

-- the parts are none, or they begin a comment and do not end it
abbrev pub AreUnended : List CommentPart → Type 0
AreUnended [] = Unit {0}
AreUnended (opens ∷ ms) = StayWithin 0 ms
AreUnended (closes ∷ ms) = ⊥
AreUnended (other c ∷ ms) = ⊥

-- The text is a comment that is begun and not ended: parts around the innermost comment that is not ended, and the
-- parts in that one. The text around it stands before it.
pub record IsUnended (cs around : List ℕ) : Type 0 where
  pub outer : List CommentPart
  pub inner : List CommentPart
  pub is : cs ≡ comment_text (outer ++ opens ∷ inner)
  pub picked : ArePicked (outer ++ opens ∷ inner)
  pub unended : AreUnended outer
  pub balanced : IsBalanced 0 inner
  pub before : around ≡ comment_text outer
