-- What the words of a line write. Each of these functions answers what its word writes, if it writes one.
use Rattle.std.specs.Prelude.{ℕ, ◌+◌, ◌-◌, ◌*◌, ◌^◌, ◌==◌, ◌&&◌, nat_lt, nat_le, Bool, true, false, not, if◌then◌else◌, List, [], ◌∷◌, Option, Some, None, option_and_then, ℤ, pos, negsuc, codes}
use Rattle.std.specs.List.{slice_split}
use Rattle.std.specs.Str.{bytes_eq, all_ascii_digits}
use Rattle.std.specs.Char.{is_ascii_digit}
use Rattle.sk_clause.specs.declared.lit.Lit.{Lit}
use Rattle.sk_cert.specs.declared.certificate.CertInput.{CertInput}
use Rattle.sk_cert.specs.declared.lines.Sizes.{Sizes}

-- an item in front of items, if they are there
abbrev pub both : {A : Type 0} → Option A → Option (List A) → Option (List A)
both None rest = None
both (Some a) None = None
both (Some a) (Some as') = Some (a ∷ as')

-- what each word writes, if each writes one
abbrev pub all_of : {A : Type 0} → (List ℕ → Option A) → List (List ℕ) → Option (List A)
all_of f [] = Some []
all_of f (w ∷ ws) = both (f w) (all_of f ws)

-- Numbers

-- digits without a zero before them
unfoldable pub is_numeral : List ℕ → Bool
is_numeral [] = false
is_numeral (c ∷ []) = is_ascii_digit c
is_numeral (c ∷ d ∷ ds) = not (c == 48) && all_ascii_digits (c ∷ d ∷ ds)

-- the number that digits write behind those of n
abbrev pub number_from : ℕ → List ℕ → ℕ
number_from n [] = n
number_from n (c ∷ cs) = number_from (10 * n + (c - 48)) cs

abbrev pub below_limit : ℕ → Option ℕ
below_limit n = if nat_lt n (2 ^ 64) then Some n else None

-- a number of 64 bits
unfoldable pub number_of : List ℕ → Option ℕ
number_of word = if is_numeral word then below_limit (number_from 0 word) else None

-- Variables and literals, of so many variables

abbrev pub variable_from : ℕ → ℕ → Option ℕ
variable_from vars n = if nat_lt 0 n && nat_le n vars then Some (n - 1) else None

unfoldable pub variable_of : ℕ → List ℕ → Option ℕ
variable_of vars word = option_and_then (variable_from vars) (number_of word)

abbrev pub signed_literal : Bool → Option ℕ → Option Lit
signed_literal neg None = None
signed_literal neg (Some v) = Some (record { var = v; neg = neg })

unfoldable pub literal_of : ℕ → List ℕ → Option Lit
literal_of vars [] = None
literal_of vars (c ∷ cs) = if c == 45 then signed_literal true (variable_of vars cs) else signed_literal false (variable_of vars (c ∷ cs))

-- Scalars

abbrev pub positive : Option ℕ → Option ℤ
positive None = None
positive (Some n) = if nat_lt n (2 ^ 63) then Some (pos n) else None

abbrev pub negative : Option ℕ → Option ℤ
negative None = None
negative (Some n) = if nat_lt 0 n && nat_le n (2 ^ 63) then Some (negsuc (n - 1)) else None

unfoldable pub scalar_of : List ℕ → Option ℤ
scalar_of [] = None
scalar_of (c ∷ cs) = if c == 45 then negative (number_of cs) else positive (number_of (c ∷ cs))

unfoldable pub argument_of : List ℕ → Option (List ℤ)
argument_of word = all_of scalar_of (slice_split (λ b. b == 44) word)

-- Lines

-- the pieces between these bytes of what is left of a text, or none where nothing is left
abbrev pub pieces : ℕ → Option (List ℕ) → List (List ℕ)
pieces mark None = []
pieces mark (Some text) = slice_split (λ b. b == mark) text

abbrev pub words : List ℕ → List (List ℕ)
words line = slice_split (λ b. b == 32) line

-- the words behind the kind, if these are the words of a line of this kind
unfoldable pub behind : List ℕ → List (List ℕ) → Option (List (List ℕ))
behind kind [] = None
behind kind (m ∷ []) = None
behind kind (m ∷ k ∷ ws) = if bytes_eq m (codes "//@") && bytes_eq k kind then Some ws else None

unfoldable pub numbers_in : List ℕ → List ℕ → Option (List ℕ)
numbers_in kind line = option_and_then (all_of number_of) (behind kind (words line))

-- the one number
abbrev pub only : List ℕ → Option ℕ
only [] = None
only (n ∷ []) = Some n
only (n ∷ m ∷ ns) = None

unfoldable pub number_in : List ℕ → List ℕ → Option ℕ
number_in kind line = option_and_then only (numbers_in kind line)

abbrev pub known_version : ℕ → Option ℕ
known_version v = if v == 1 then Some v else if v == 2 then Some v else None

unfoldable pub version_in : List ℕ → Option ℕ
version_in line = option_and_then known_version (number_in (codes "certificate") line)

abbrev pub input_from : List (List ℕ) → Option CertInput
input_from [] = None
input_from (w ∷ ws) = option_and_then (λ o. option_and_then (λ args. Some (record { obligation = o; args = args })) (all_of argument_of ws)) (number_of w)

unfoldable pub input_in : List ℕ → Option CertInput
input_in line = option_and_then input_from (behind (codes "input") (words line))

-- the sizes of a part: the numbers of variables, of clauses of the formula and of clauses of the log
abbrev pub sizes_from : List ℕ → Option Sizes
sizes_from (n ∷ c ∷ l ∷ []) = Some (record { vars = n; clauses = c; log = l })
sizes_from _ = None

-- the sizes behind the number of the part, if it has one
abbrev pub sizes_behind : Option ℕ → List ℕ → Option Sizes
sizes_behind None ns = sizes_from ns
sizes_behind (Some i) [] = None
sizes_behind (Some i) (n ∷ ns) = if n == i then sizes_from ns else None

unfoldable pub sizes_in : List ℕ → Option ℕ → List ℕ → Option Sizes
sizes_in kind number line = option_and_then (sizes_behind number) (numbers_in kind line)

unfoldable pub names_in : ℕ → List ℕ → Option (List ℕ)
names_in vars line = option_and_then (all_of (variable_of vars)) (behind (codes "names") (words line))

unfoldable pub clause_in : List ℕ → ℕ → List ℕ → Option (List Lit)
clause_in kind vars line = option_and_then (all_of (literal_of vars)) (behind kind (words line))
