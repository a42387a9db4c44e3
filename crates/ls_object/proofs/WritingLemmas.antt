-- What a failed write in several steps leaves.
use Rattle.std.proofs.Common.{ℕ, ◌≡◌, List, [], ◌++◌, refl, sym, subst, ap, ◌∙◌, append-nil, append_assoc, Result, Ok, Err, OnOk, OnErr}
use Rattle.std.proofs.lemmas.List.{append_cancel_left}
use Rattle.std.specs.declared.alloc.AllocError.{AllocError}
use Rattle.ls_object.specs.Writing.{AddsFrontOf}

-- a step that added nothing
pub adds_none : (added old new : List ℕ) → new ≡ old → AddsFrontOf added old new
adds_none added old new e = record { front = []; back = added; parts = refl; is_added = e ∙ sym (append-nil old) }

-- a front part of the first text is one of both
pub adds_first : (a b old new : List ℕ) → AddsFrontOf a old new → AddsFrontOf (a ++ b) old new
adds_first a b old new h = record { front = h.front; back = h.back ++ b; parts = ap (λ t. t ++ b) h.parts ∙ append_assoc h.front h.back b; is_added = h.is_added }

-- a whole first text and a front part of the second
pub adds_after : (a b old mid new : List ℕ) → mid ≡ old ++ a → AddsFrontOf b mid new → AddsFrontOf (a ++ b) old new
adds_after a b old mid new e h = record {
  front = a ++ h.front;
  back = h.back;
  parts = ap (λ t. a ++ t) h.parts ∙ sym (append_assoc a h.front h.back);
  is_added = h.is_added ∙ ap (λ t. t ++ h.front) e ∙ append_assoc old a h.front;
}

-- what holds whatever the result holds on an error
pub on_err : (r : Result (Unit {0}) AllocError) (P : Type 0) → P → OnErr r P
on_err (Ok x) P h = tt
on_err (Err e) P h = h

-- a failed write of one step
pub on_err_none : (r : Result (Unit {0}) AllocError) (added old new : List ℕ) → OnErr r (new ≡ old) → OnErr r (AddsFrontOf added old new)
on_err_none (Ok x) added old new h = tt
on_err_none (Err e) added old new h = adds_none added old new h

-- a failed write of a second text, after a first
pub on_err_after : (r : Result (Unit {0}) AllocError) (a b old mid new : List ℕ) → mid ≡ old ++ a → OnErr r (AddsFrontOf b mid new) → OnErr r (AddsFrontOf (a ++ b) old new)
on_err_after (Ok x) a b old mid new e h = tt
on_err_after (Err x) a b old mid new e h = adds_after a b old mid new e h

-- three texts one after another
pub three_ok : (a b c old first second new : List ℕ) → first ≡ old ++ a → second ≡ first ++ b → new ≡ second ++ c → new ≡ old ++ (a ++ b ++ c)
three_ok a b c old first second new e f g =
    g ∙ ap (λ t. t ++ c) (f ∙ ap (λ t. t ++ b) e ∙ append_assoc old a b) ∙ append_assoc old (a ++ b) c

-- a failed write of the second of three texts
pub three_second : (a b c old first second : List ℕ) → first ≡ old ++ a → AddsFrontOf b first second → AddsFrontOf (a ++ b ++ c) old second
three_second a b c old first second e h = adds_first (a ++ b) c old second (adds_after a b old first second e h)

-- a failed write of the third of three texts
pub three_third : (a b c old first second new : List ℕ) → first ≡ old ++ a → second ≡ first ++ b → AddsFrontOf c second new → AddsFrontOf (a ++ b ++ c) old new
three_third a b c old first second new e f h = adds_after (a ++ b) c old second new (f ∙ ap (λ t. t ++ b) e ∙ append_assoc old a b) h

-- the last of three writes, whose result is returned as it is
pub three_ok_last : (r : Result (Unit {0}) AllocError) (a b c old first second new : List ℕ) → first ≡ old ++ a → second ≡ first ++ b → OnOk r (new ≡ second ++ c) → OnOk r (new ≡ old ++ (a ++ b ++ c))
three_ok_last (Ok x) a b c old first second new e f g = three_ok a b c old first second new e f g
three_ok_last (Err x) a b c old first second new e f g = tt

-- on an error
pub three_err_last : (r : Result (Unit {0}) AllocError) (a b c old first second new : List ℕ) → first ≡ old ++ a → second ≡ first ++ b → OnErr r (AddsFrontOf c second new) → OnErr r (AddsFrontOf (a ++ b ++ c) old new)
three_err_last (Ok x) a b c old first second new e f h = tt
three_err_last (Err x) a b c old first second new e f h = three_third a b c old first second new e f h

-- the same, where the last writes one piece
pub three_err_piece : (r : Result (Unit {0}) AllocError) (a b c old first second new : List ℕ) → first ≡ old ++ a → second ≡ first ++ b → OnErr r (new ≡ second) → OnErr r (AddsFrontOf (a ++ b ++ c) old new)
three_err_piece (Ok x) a b c old first second new e f h = tt
three_err_piece (Err x) a b c old first second new e f h = three_third a b c old first second new e f (adds_none c second new h)

-- a text of which a part is written, and the rest goes on: a failed write of the rest is a failed write of the whole
pub adds_rest : (old out new whole rest written : List ℕ) → out ≡ old ++ written → out ++ rest ≡ old ++ whole → AddsFrontOf rest out new → AddsFrontOf whole old new
adds_rest old out new whole rest written e w h =
    let parts : written ++ rest ≡ whole = append_cancel_left old (written ++ rest) whole (sym (append_assoc old written rest) ∙ ap (λ t. t ++ rest) (sym e) ∙ w) in
    subst (λ t. AddsFrontOf t old new) parts (adds_after written rest old out new e h)

-- the end of the rest
pub ok_rest : (r : Result (Unit {0}) AllocError) (old out new whole rest : List ℕ) → out ++ rest ≡ old ++ whole → OnOk r (new ≡ out ++ rest) → OnOk r (new ≡ old ++ whole)
ok_rest (Ok x) old out new whole rest w h = h ∙ w
ok_rest (Err x) old out new whole rest w h = tt

-- a failed write of the end
pub err_rest : (r : Result (Unit {0}) AllocError) (old out new whole rest written : List ℕ) → out ≡ old ++ written → out ++ rest ≡ old ++ whole → OnErr r (AddsFrontOf rest out new) → OnErr r (AddsFrontOf whole old new)
err_rest (Ok x) old out new whole rest written e w h = tt
err_rest (Err x) old out new whole rest written e w h = adds_rest old out new whole rest written e w h
