-- The options of the command line, how they are spelt, and which numbers they take.
use Rattle.std.specs.Prelude.{ℕ, nat_le, Bool, true, false, ◌&&◌, List, [], ◌∷◌, length, Option, Some, None, if◌then◌else◌, codes}
use Rattle.std.specs.List.{list_all, list_any}
use Rattle.std.specs.Option.{option_and_then}
use Rattle.std.specs.Str.{bytes_eq}
use Rattle.sk_tree.specs.Shapes.{is_digit}
use Rattle.sk_tree.specs.Tokens.{number_of}
use Rattle.sk_opts.specs.declared.setting.Setting.{Setting}
use Rattle.sk_opts.specs.declared.setting.Setting.TheVariants.{HoleBits, InputBits, Turns, Calls, IntBits, Rounds, Conflicts, Certificate, Holes}
use Rattle.sk_opts.specs.declared.setting.Given.{Given}
use Rattle.sk_opts.specs.declared.setting.GivenValue.{GivenValue}
use Rattle.sk_opts.specs.declared.setting.GivenValue.TheVariants.{Number, Numbers}

abbrev pub setting_bytes : Setting → List ℕ
setting_bytes HoleBits = codes "--bnd-cbits"
setting_bytes InputBits = codes "--bnd-inbits"
setting_bytes Turns = codes "--bnd-unroll-amnt"
setting_bytes Calls = codes "--bnd-inline-amnt"
setting_bytes IntBits = codes "--int-bits"
setting_bytes Rounds = codes "--rounds"
setting_bytes Conflicts = codes "--conflicts"
setting_bytes Certificate = codes "--cert"
setting_bytes Holes = codes "--holes"

-- the range of the numbers of an option that takes one; of another 0 to 0

abbrev pub lowest : Setting → ℕ
lowest HoleBits = 1
lowest InputBits = 1
lowest Turns = 0
lowest Calls = 1
lowest IntBits = 6
lowest Rounds = 0
lowest Conflicts = 0
lowest Certificate = 0
lowest Holes = 0

abbrev pub highest : Setting → ℕ
highest HoleBits = 16
highest InputBits = 16
highest Turns = 64
highest Calls = 16
highest IntBits = 32
highest Rounds = 1000000
highest Conflicts = 1000000000
highest Certificate = 0
highest Holes = 0

-- whether it stands without a value
abbrev pub is_flag : Setting → Bool
is_flag Certificate = true
is_flag HoleBits = false
is_flag InputBits = false
is_flag Turns = false
is_flag Calls = false
is_flag IntBits = false
is_flag Rounds = false
is_flag Conflicts = false
is_flag Holes = false

-- whether its value is a list of numbers
abbrev pub is_list : Setting → Bool
is_list Holes = true
is_list HoleBits = false
is_list InputBits = false
is_list Turns = false
is_list Calls = false
is_list IntBits = false
is_list Rounds = false
is_list Conflicts = false
is_list Certificate = false

-- those that a pragma may set
abbrev pub of_pragmas : List Setting
of_pragmas = HoleBits ∷ InputBits ∷ Turns ∷ Calls ∷ []

abbrev pub of_bounds : List Setting
of_bounds = IntBits ∷ of_pragmas

abbrev pub of_synth : List Setting
of_synth = Rounds ∷ Conflicts ∷ Certificate ∷ of_bounds

abbrev pub of_trace : List Setting
of_trace = Holes ∷ of_bounds

-- the one of these that is spelt so
abbrev pub setting_among : List Setting → List ℕ → Option Setting
setting_among [] word = None
setting_among (s ∷ ss) word = if bytes_eq word (setting_bytes s) then Some s else setting_among ss word

-- Numbers

-- 1 to 10 digits
abbrev pub is_number : List ℕ → Bool
is_number word = nat_le 1 (length word) && (nat_le (length word) 10 && list_all is_digit word)

-- the number that is spelt so, where it lies between these two
abbrev pub number_in : ℕ → ℕ → List ℕ → Option ℕ
number_in low high word = if is_number word && (nat_le low (number_of word) && nat_le (number_of word) high) then Some (number_of word) else None

-- the number that a word gives an option
abbrev pub value_in : Setting → List ℕ → Option ℕ
value_in s word = if is_flag s then None else number_in (lowest s) (highest s) word

-- Settings with their values

abbrev pub is_of : Setting → Given → Bool
is_of s g = bytes_eq (setting_bytes s) (setting_bytes g.setting)

-- no setting stands twice
abbrev pub all_once : List Given → Bool
all_once [] = true
all_once (g ∷ gs) = if list_any (is_of g.setting) gs then false else all_once gs

-- the value of the last that is of this setting, or what was found before
abbrev pub last_from : Option GivenValue → Setting → List Given → Option GivenValue
last_from found s [] = found
last_from found s (g ∷ gs) = last_from (if is_of s g then Some g.value else found) s gs

abbrev pub last_value : Setting → List Given → Option GivenValue
last_value s gs = last_from None s gs

-- the number, or the list, that a value is
abbrev pub number_given : GivenValue → Option ℕ
number_given (Number n) = Some n
number_given (Numbers ns) = None

abbrev pub numbers_given : GivenValue → Option (List ℕ)
numbers_given (Number n) = None
numbers_given (Numbers ns) = Some ns

abbrev pub last_of : Setting → List Given → Option ℕ
last_of s gs = option_and_then number_given (last_value s gs)

abbrev pub last_list : Setting → List Given → Option (List ℕ)
last_list s gs = option_and_then numbers_given (last_value s gs)
