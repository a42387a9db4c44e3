-- Lists of truth values, place by place.
use Rattle.std.proofs.Common.{ℕ, zero, suc, ◌≡◌, ◌∙◌, ◌+◌, ◌<◌, ◌≤◌, Bool, true, false, not, ◌||◌, nat_lt, List, [], ◌∷◌, ◌++◌, length, map, arith, ap, sym, refl}
use Rattle.std.specs.List.{list_any}
use Rattle.std.proofs.lemmas.Bool.Decides.{nat_tests}
use Rattle.std.proofs.lemmas.List.{same_lists, get_or_default, get_or-map, length-map}
use Rattle.std.proofs.lemmas.List.FromFn.{length-map-range_with_len, get_or-map-range_with_len, map-range_with_len_more}
use Rattle.ls_cells.specs.Signs.{tabulate, at, zip_with}

-- how many values there are
pub length-tabulate : (n : ℕ) (f : ℕ → Bool) → length (tabulate n f) ≡ n
unfolding tabulate
length-tabulate n f = length-map-range_with_len f 0 n

-- the value at a place
pub at-tabulate : (n : ℕ) (f : ℕ → Bool) (i : ℕ) → i < n → at (tabulate n f) i ≡ f i
unfolding tabulate
at-tabulate n f i l = get_or-map-range_with_len f 0 n i i false l (omega arith)

-- one value more
pub tabulate_more : (n : ℕ) (f : ℕ → Bool) → tabulate (n + 1) f ≡ tabulate n f ++ f n ∷ []
unfolding tabulate
tabulate_more n f = map-range_with_len_more f 0 n n (omega arith)

-- a list with the values of a test at its places is the list of these values
pub is_tabulate : (bs : List Bool) (n : ℕ) (f : ℕ → Bool) → length bs ≡ n → ((i : ℕ) → i < n → at bs i ≡ f i) → bs ≡ tabulate n f
is_tabulate bs n f e each =
    same_lists bs (tabulate n f) (e ∙ sym (length-tabulate n f)) (λ k d l.
    let m : k < n = omega arith in
    get_or_default bs k d false l ∙ each k m ∙ sym (at-tabulate n f k m)
    ∙ sym (get_or_default (tabulate n f) k d false (omega (arith, length-tabulate n f))))

-- two tests with the same values
pub tabulate_same : (n : ℕ) (f g : ℕ → Bool) → ((i : ℕ) → i < n → f i ≡ g i) → tabulate n f ≡ tabulate n g
tabulate_same n f g each = is_tabulate (tabulate n f) n g (length-tabulate n f) (λ i l. at-tabulate n f i l ∙ each i l)

-- each value negated
pub map_tabulate : (n : ℕ) (f : ℕ → Bool) → map not (tabulate n f) ≡ tabulate n (λ i. not (f i))
map_tabulate n f =
    is_tabulate (map not (tabulate n f)) n (λ i. not (f i)) (length-map (tabulate n f) not ∙ length-tabulate n f) (λ i l.
    get_or-map not (tabulate n f) i false false (omega (arith, length-tabulate n f)) ∙ ap not (at-tabulate n f i l))

-- joined lists are as long
pub length-zip_with : (op : Bool → Bool → Bool) (xs ys : List Bool) → length xs ≡ length ys → length (zip_with op xs ys) ≡ length xs
length-zip_with op [] ys e = refl
length-zip_with op (x ∷ xs) [] e = absurd (omega arith)
length-zip_with op (x ∷ xs) (y ∷ ys) e = ap suc (length-zip_with op xs ys (omega arith))

at-zip_with : (op : Bool → Bool → Bool) (xs ys : List Bool) → length xs ≡ length ys → (i : ℕ) → i < length xs → at (zip_with op xs ys) i ≡ op (at xs i) (at ys i)
at-zip_with op [] ys e i l = absurd (omega arith)
at-zip_with op (x ∷ xs) [] e i l = absurd (omega arith)
at-zip_with op (x ∷ xs) (y ∷ ys) e zero l = refl
at-zip_with op (x ∷ xs) (y ∷ ys) e (suc i) l = at-zip_with op xs ys (omega arith) i (omega arith)

-- two lists joined place by place
pub zip_tabulate : (op : Bool → Bool → Bool) (n : ℕ) (f g : ℕ → Bool) → zip_with op (tabulate n f) (tabulate n g) ≡ tabulate n (λ i. op (f i) (g i))
zip_tabulate op n f g =
    let same : length (tabulate n f) ≡ length (tabulate n g) = length-tabulate n f ∙ sym (length-tabulate n g) in
    is_tabulate (zip_with op (tabulate n f) (tabulate n g)) n (λ i. op (f i) (g i)) (length-zip_with op (tabulate n f) (tabulate n g) same ∙ length-tabulate n f) (λ i l.
    at-zip_with op (tabulate n f) (tabulate n g) same i (omega (arith, length-tabulate n f)) ∙ ap (λ x. op x (at (tabulate n g) i)) (at-tabulate n f i l) ∙ ap (op (f i)) (at-tabulate n g i l))

-- no value is true where each is false
pub any_false : (bs : List Bool) → ((i : ℕ) → i < length bs → at bs i ≡ false) → list_any (λ b. b) bs ≡ false
any_false [] f = refl
any_false (b ∷ bs) f = ap (λ x. x || list_any (λ y. y) bs) (f 0 (omega arith)) ∙ any_false bs (λ i l. f (suc i) (omega arith))

-- the test of a number below another
pub is_below : (i n : ℕ) → i < n → nat_lt i n ≡ true
is_below i n l = grind (arith, nat_tests)

pub not_below : (i n : ℕ) → n ≤ i → nat_lt i n ≡ false
not_below i n l = grind (arith, nat_tests)
