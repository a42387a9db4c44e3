-- What a source told of its text, and the bytes of the fixed lines.
use Rattle.std.proofs.Common.{◌≡◌, ℕ, ◌+◌, ◌<◌, ◌≤◌, List, [], ◌++◌, length, Option, Some, None, Result, Err, refl, ap, sym, ◌∙◌, arith, length-append, append-nil}
use Rattle.std.specs.Prelude.{encode_utf8_all}
use Rattle.std.specs.Io.KnownBytes.{IsAtEnd}
use Rattle.std.proofs.Math.Utf8.{encode}
use Rattle.ls_io.specs.declared.all.ReadFault.{ReadFault}
use Rattle.ls_io.specs.declared.all.ReadFault.TheVariants as fault
use Rattle.ls_io.specs.Moves.{limit, Gave, GaveCount}
use Rattle.subtypep_app.specs.Report.{too_long_text}
use Rattle.subtypep_app.specs.Replies.{usage_text, IsTold}

-- some text is what was left, where that is told
pub told_any : (left : Option (List ℕ)) → (text : List ℕ) × IsTold left text
told_any None = ([], tt)
told_any (Some xs) = (xs, refl)

-- a source that gave all that it had left gave the text that it told
pub told_all : (before now : Option (List ℕ)) (bytes : List ℕ) → Gave before now bytes → IsAtEnd now → IsTold before bytes
told_all None now bytes gave end = tt
told_all (Some xs) None bytes gave end = absurd (cc)
told_all (Some xs) (Some ys) bytes gave end =
    let whole : xs ≡ bytes ++ ys = cc in
    whole ∙ ap (λ l. bytes ++ l) end ∙ append-nil bytes

-- a text that is at least as long as what was given is what was left, where that is told
told_long : (before now : Option (List ℕ)) (bytes : List ℕ) → Gave before now bytes
    → (text : List ℕ) × IsTold before text × (length bytes ≤ length text)
told_long None now bytes gave = (bytes, tt, omega arith)
told_long (Some xs) None bytes gave = absurd (cc)
told_long (Some xs) (Some ys) bytes gave =
    let whole : xs ≡ bytes ++ ys = cc in
    (xs, refl, omega (arith, ap length whole, length-append bytes ys))

-- a source that gave one byte more than the limit told a text that is too long
pub told_too_long : (before now : Option (List ℕ)) → GaveCount before now (limit + 1) → (text : List ℕ) × IsTold before text × (limit < length text)
told_too_long before now gave =
    let told = told_long before now gave.0 gave.2 in
    let long : limit < length told.0 = omega (arith, told.2, gave.1) in
    (told.0, told.1, long)

-- a text that is too long is no failed read
pub too_long_no_fault : {A : Type 0} (r : Result A ReadFault) (x : ReadFault) → r ≡ Err x → x ≡ fault.TooLong → r ≡ Err fault.Fault → ⊥
too_long_no_fault r x is long e =
    let both : x ≡ fault.Fault = (let joined = sym is ∙ e in cc) in
    let apart : fault.TooLong ≡ fault.Fault = sym long ∙ both in
    cc

-- what is told is one text
pub IsTold-unique : (left : Option (List ℕ)) (told text : List ℕ) → left ≡ Some told → IsTold left text → told ≡ text
IsTold-unique None told text e is = absurd (cc)
IsTold-unique (Some xs) told text e is = (let same : xs ≡ told = cc in sym same ∙ is)

-- the fixed lines are ASCII, so their UTF-8 is as long as they are
pub usage_bytes : usage_text ≡ encode_utf8_all usage_text
unfolding encode
usage_bytes = refl

pub too_long_bytes : too_long_text ≡ encode_utf8_all too_long_text
unfolding encode
too_long_bytes = refl
