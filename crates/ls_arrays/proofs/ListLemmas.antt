-- Lists: some element of one, its length, and the numbers that it has.
use Rattle.std.proofs.Common.{ℕ, ◌≡◌, refl, sym, ◌*◌, Bool, true, false, ◌||◌, ◌==◌, List, [], ◌∷◌, ◌++◌, map, length, inl, inr, ◌⊎◌, arith, length-append}
use Rattle.std.specs.List.{flat_map}
use Rattle.std.proofs.lemmas.Bool.Decides.{Decides-eqb}
use Rattle.ls_arrays.specs.steps.Representatives.{SomeOf, has}

-- some element of one list is one of the longer list
pub some_front : {X : Type 0} (P : X → Type 0) (xs ys : List X) → SomeOf P xs → SomeOf P (xs ++ ys)
some_front P [] ys h = absurd h
some_front P (x ∷ xs) ys (inl h) = inl h
some_front P (x ∷ xs) ys (inr h) = inr (some_front P xs ys h)

-- the same of the list behind
pub some_back : {X : Type 0} (P : X → Type 0) (xs ys : List X) → SomeOf P ys → SomeOf P (xs ++ ys)
some_back P [] ys h = h
some_back P (x ∷ xs) ys h = inr (some_back P xs ys h)

-- an element and what a function makes of it
pub some_map : {X Y : Type 0} (P : X → Type 0) (Q : Y → Type 0) (f : X → Y) → ((x : X) → P x → Q (f x)) → (xs : List X) → SomeOf P xs → SomeOf Q (map f xs)
some_map P Q f g [] h = absurd h
some_map P Q f g (x ∷ xs) (inl h) = inl (g x h)
some_map P Q f g (x ∷ xs) (inr h) = inr (some_map P Q f g xs h)

-- an element and what a function makes of it as a list
pub some_flat : {X Y : Type 0} (P : X → Type 0) (Q : Y → Type 0) (f : X → List Y) → ((x : X) → P x → SomeOf Q (f x)) → (xs : List X) → SomeOf P xs → SomeOf Q (flat_map f xs)
some_flat P Q f g [] h = absurd h
some_flat P Q f g (x ∷ xs) (inl h) = some_front Q (f x) (flat_map f xs) (g x h)
some_flat P Q f g (x ∷ xs) (inr h) = some_back Q (f x) (flat_map f xs) (some_flat P Q f g xs h)

-- and a weaker fact holds of it too
pub some_weaker : {X : Type 0} (P Q : X → Type 0) → ((x : X) → P x → Q x) → (xs : List X) → SomeOf P xs → SomeOf Q xs
some_weaker P Q g [] h = absurd h
some_weaker P Q g (x ∷ xs) (inl h) = inl (g x h)
some_weaker P Q g (x ∷ xs) (inr h) = inr (some_weaker P Q g xs h)

-- one of two tests that are true together
pub true_or : (a b : Bool) → (a || b) ≡ true → (a ≡ true) ⊎ (b ≡ true)
true_or true b h = inl refl
true_or false b h = inr h

-- two tests that are both false
pub false_or : (a b : Bool) → (a || b) ≡ false → (a ≡ false) × (b ≡ false)
false_or true b h = absurd (cc)
false_or false b h = (refl, h)

-- a test is true or false
pub true_or_false : (b : Bool) → (b ≡ true) ⊎ (b ≡ false)
true_or_false true = inl refl
true_or_false false = inr refl

-- a number that is there is one of the list
pub has_one : (ns : List ℕ) (n : ℕ) → has ns n ≡ true → SomeOf (λ m. m ≡ n) ns
has_one [] n h = absurd (cc)
has_one (m ∷ ms) n h = elim (true_or _ _ h) [ inl e ↦ inl (sym ((Decides-eqb n m).0 e)) | inr k ↦ inr (has_one ms n k) ]

-- what a list has with a number behind it
pub has_append : (ns : List ℕ) (m n : ℕ) → has (ns ++ m ∷ []) n ≡ (has ns n || n == m)
has_append [] m n = grind arith
has_append (k ∷ ks) m n = let e = has_append ks m n in grind arith

-- as many as before
pub length_map : {X Y : Type 0} (f : X → Y) (xs : List X) → length (map f xs) ≡ length xs
length_map f [] = refl
length_map f (x ∷ xs) = let h = length_map f xs in grind arith

-- a product of lists, each of one length
pub length_flat : {X Y : Type 0} (f : X → List Y) (k : ℕ) → ((x : X) → length (f x) ≡ k) → (xs : List X) → length (flat_map f xs) ≡ length xs * k
length_flat f k h [] = omega arith
length_flat f k h (x ∷ xs) =
    let e = h x in
    let r = length_flat f k h xs in
    let a = length-append (f x) (flat_map f xs) in
    grind arith
