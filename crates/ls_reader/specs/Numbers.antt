-- Numbers as they are written (2.3.1, 2.3.2).
use Rattle.std.specs.List.{prefix_len}
use Rattle.std.specs.Prelude.{ℕ, zero, suc, ◌+◌, ◌-◌, ◌*◌, Bool, true, false, ◌&&◌, ◌||◌, if◌then◌else◌, ◌==◌, nat_lt, nat_le, List, [], ◌∷◌, length, take, drop, Option, Some, None}
use Rattle.std.proofs.Math.Nat.{zero-lt-suc}
use Rattle.ls_reader.specs.declared.datum.Form.{roll-Form}
use Rattle.ls_reader.specs.declared.datum.Form.TheOpen.{Form-F}
use Rattle.ls_reader.specs.declared.datum.FloatFormat.{FloatFormat}
use Rattle.ls_reader.specs.declared.datum.FloatFormat.TheVariants.{Single, Double}
use Rattle.ls_reader.specs.declared.datum.Literal.{Literal}
use Rattle.ls_reader.specs.declared.fault.FaultKind.TheVariants.{ZeroDenominator}
use Rattle.ls_reader.specs.declared.token.Token.{Token}
use Rattle.ls_reader.specs.declared.token.Token.TheVariants as token
use Rattle.ls_reader.specs.Characters.{is_digit, is_sign}
use Rattle.ls_reader.specs.Fractions.{literal_of}

-- ---- digits

-- the weight of a digit: 0 to 9, or 10 to 15 for A to F in either case; 16 for a character that is no digit
abbrev pub weight : ℕ → ℕ
weight c =
    if is_digit c then c - 48 else
    (if nat_le 65 c && nat_le c 70 then c - 55 else
    (if nat_le 97 c && nat_le c 102 then c - 87 else 16))

-- a digit in a base of at most 16
abbrev pub is_digit_in : ℕ → ℕ → Bool
is_digit_in base c = nat_lt (weight c) base

-- how many digits come first
abbrev pub digits_len : ℕ → List ℕ → ℕ
digits_len base cs = prefix_len (is_digit_in base) cs

-- whether digits come first
abbrev pub have_digits : ℕ → List ℕ → Bool
have_digits base cs = nat_lt 0 (digits_len base cs)

-- what follows the digits that come first
abbrev pub behind_digits : ℕ → List ℕ → List ℕ
behind_digits base cs = drop (digits_len base cs) cs

-- at least one digit, and nothing but digits
abbrev pub are_digits : ℕ → List ℕ → Bool
are_digits base cs = have_digits base cs && digits_len base cs == length cs

-- the number whose digits are those of n and then these
abbrev pub value_on : ℕ → ℕ → List ℕ → ℕ
value_on base n [] = n
value_on base n (c ∷ cs) = value_on base (n * base + weight c) cs

-- the value of digits
abbrev pub value : ℕ → List ℕ → ℕ
value base cs = value_on base 0 cs

-- the token without its sign, if it begins with one
abbrev pub unsigned : List ℕ → List ℕ
unsigned [] = []
unsigned (c ∷ cs) = if is_sign c then cs else c ∷ cs

-- whether the token begins with a minus
abbrev pub is_negative : List ℕ → Bool
is_negative [] = false
is_negative (c ∷ cs) = c == 45

-- ---- integers and ratios

-- a slash and digits
abbrev pub is_denominator : ℕ → List ℕ → Bool
is_denominator base [] = false
is_denominator base (c ∷ cs) = c == 47 && are_digits base cs

-- nothing, or a slash and digits
abbrev pub ends_rational : ℕ → List ℕ → Bool
ends_rational base [] = true
ends_rational base (c ∷ cs) = is_denominator base (c ∷ cs)

-- an integer or a ratio in a base: an optional sign, digits, and perhaps a slash and digits (2.4.8.7 to 2.4.8.9)
abbrev pub is_rational_in : ℕ → List ℕ → Bool
is_rational_in base text = have_digits base (unsigned text) && ends_rational base (behind_digits base (unsigned text))

-- a point and nothing behind it
abbrev pub is_point : List ℕ → Bool
is_point [] = false
is_point (c ∷ []) = c == 46
is_point (c ∷ d ∷ cs) = false

-- an integer or a ratio (2.3.2.1): an integer may have a point behind it
abbrev pub is_rational : List ℕ → Bool
is_rational text =
    let rest = behind_digits 10 (unsigned text) in
    have_digits 10 (unsigned text) && (is_point rest || ends_rational 10 rest)

-- the value of what stands behind a slash, and 1 where there is none
abbrev pub denominator : ℕ → List ℕ → ℕ
denominator base [] = 1
denominator base (c ∷ cs) = if c == 47 then value base cs else 1

-- the token of a number
abbrev pub number : Literal → Token
number l = token.Atom (roll-Form (Form-F.Number l))

-- n/d or minus n/d; a denominator of 0 is a fault
abbrev pub fraction : Bool → ℕ → ℕ → Token
fraction negative n zero = token.Bad ZeroDenominator
fraction negative n (suc d) = number (literal_of negative n (suc d) (zero-lt-suc d))

-- the number that an integer or a ratio writes, in a base
abbrev pub number_of : ℕ → List ℕ → Token
number_of base text =
    let digits = unsigned text in
    let numerator = value base (take (digits_len base digits) digits) in
    fraction (is_negative text) numerator (denominator base (behind_digits base digits))

-- ---- floats

-- the format that the marker of an exponent asks for: E, S or F, and D or L, in either case
abbrev pub marker_format : ℕ → Option FloatFormat
marker_format c =
    if c == 101 || c == 115 || c == 102 || c == 69 || c == 83 || c == 70 then Some Single else
    (if c == 100 || c == 108 || c == 68 || c == 76 then Some Double else None)

-- the format that an exponent asks for: a marker, an optional sign and digits; none, where the text is no exponent
abbrev pub exponent_format : List ℕ → Option FloatFormat
exponent_format [] = None
exponent_format (c ∷ cs) = if are_digits 10 (unsigned cs) then marker_format c else None

-- the same, where the exponent may be left out
abbrev pub optional_exponent : List ℕ → Option FloatFormat
optional_exponent [] = Some Single
optional_exponent (c ∷ cs) = exponent_format (c ∷ cs)

-- a point, at least one digit, and an optional exponent
abbrev pub fraction_format : List ℕ → Option FloatFormat
fraction_format [] = None
fraction_format (c ∷ cs) = if c == 46 && have_digits 10 cs then optional_exponent (behind_digits 10 cs) else None

-- perhaps a point with digits or none after it, and an exponent
abbrev pub scale_format : List ℕ → Option FloatFormat
scale_format [] = None
scale_format (c ∷ cs) = if c == 46 then exponent_format (behind_digits 10 cs) else exponent_format (c ∷ cs)

-- the first one, if there is one
abbrev pub or_else : {A : Type 0} → Option A → Option A → Option A
or_else (Some x) other = Some x
or_else None other = other

-- The format of a float without its sign (2.3.2.2), of two forms: digits or none, a point, at least one digit, and an
-- optional exponent; or digits, perhaps a point with digits or none after it, and an exponent.
abbrev pub unsigned_float : List ℕ → Option FloatFormat
unsigned_float cs =
    or_else (fraction_format (behind_digits 10 cs))
    (if have_digits 10 cs then scale_format (behind_digits 10 cs) else None)

-- the format of a float (2.3.2.2); none, where the token is no float
abbrev pub float_of : List ℕ → Option FloatFormat
float_of text = unsigned_float (unsigned text)
