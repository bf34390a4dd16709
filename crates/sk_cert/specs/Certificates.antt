-- What `synth --cert` writes, and `check` reads: a result of `synth` with status 0 or 1, and behind it what shows that it
-- is right.
--   //@ certificate V
--   //@ inputs K
--   //@ input O A A      K lines
--   //@ upper I N C L    for each upper part; version 1 has no I
--   //@ names v v
--   //@ c l l            C lines, the clauses of the formula
--   //@ l l l            L lines, the clauses of the log
--   //@ lower N C L      where there is a lower part, with lines as above
--   //@ end
-- O is the number of an obligation. An argument is spelt as its scalars with commas between them. N is the number of
-- variables of a formula. Variables are written from 1 on, and a literal with `-` before its variable where it is
-- negated; a clause without literals is a line `//@ c` or `//@ l` alone. No number has a leading zero.
use Rattle.std.specs.Prelude.{◌≡◌, ℕ, ◌+◌, ◌^◌, ◌<◌, ◌==◌, ◌≢◌, ◌⊎◌, List, [], ◌∷◌, ◌++◌, map, length, Option, Some, None, IfSome, ℤ, if◌then◌else◌, codes}
use Rattle.std.specs.Fmt.{decimal, signed_decimal}
use Rattle.std.specs.List.{flat_map, join_by, All}
use Rattle.sk_base.specs.Word.{IsWord}
use Rattle.sk_clause.specs.declared.lit.Lit.{Lit}
use Rattle.sk_clause.specs.Problem.{AreWithin}
use Rattle.sk_model.specs.declared.expanded.Choice.{Choice}
use Rattle.sk_cert.specs.declared.certificate.Proof.{Proof}
use Rattle.sk_cert.specs.declared.certificate.CertInput.{CertInput}
use Rattle.sk_cert.specs.declared.certificate.Certificate.{Certificate}

-- Lines

-- what a line of this kind holds, with words behind it
abbrev pub marked : List ℕ → List (List ℕ) → List ℕ
marked kind words = codes "//@ " ++ kind ++ flat_map (λ w. codes " " ++ w) words

abbrev pub mark_line : List ℕ → List (List ℕ) → List ℕ
mark_line kind words = marked kind words ++ codes "\n"

abbrev pub number_line : List ℕ → List ℕ → List ℕ
number_line kind numbers = mark_line kind (map decimal numbers)

-- The result

-- the lines of a result of `synth` behind its program
abbrev pub result_lines : Option Choice → ℕ → List ℕ
result_lines None value = mark_line (codes "none") []
result_lines (Some a) value = mark_line (codes "completion") [] ++ number_line (codes "value") (value ∷ []) ++ number_line (codes "holes") a.values

-- Inputs

abbrev pub argument_text : List ℤ → List ℕ
argument_text scalars = join_by signed_decimal (codes ",") scalars

abbrev pub input_words : CertInput → List (List ℕ)
input_words i = decimal i.obligation ∷ map argument_text i.args

abbrev pub input_line : CertInput → List ℕ
input_line i = mark_line (codes "input") (input_words i)

abbrev pub input_lines : List CertInput → List ℕ
input_lines inputs = number_line (codes "inputs") (length inputs ∷ []) ++ flat_map input_line inputs

-- Parts

abbrev pub literal_text : Lit → List ℕ
literal_text l = if l.neg then codes "-" ++ decimal (l.var + 1) else decimal (l.var + 1)

abbrev pub variable_text : ℕ → List ℕ
variable_text v = decimal (v + 1)

abbrev pub clause_line : List ℕ → List Lit → List ℕ
clause_line kind clause = mark_line kind (map literal_text clause)

abbrev pub names_line : List ℕ → List ℕ
names_line names = mark_line (codes "names") (map variable_text names)

-- a part whose first line is of this kind, with these numbers before its sizes
abbrev pub part_lines : List ℕ → List ℕ → Proof → List ℕ
part_lines kind before p =
    number_line kind (before ++ p.formula.clauses.vars ∷ length p.formula.clauses.clauses ∷ length p.log ∷ [])
    ++ names_line p.formula.names
    ++ flat_map (clause_line (codes "c")) p.formula.clauses.clauses
    ++ flat_map (clause_line (codes "l")) p.log

-- the numbers before the sizes of an upper part with this number: version 1 has none there
abbrev pub part_number : ℕ → ℕ → List ℕ
part_number version i = if version == 1 then [] else i ∷ []

-- upper parts, of which the first has this number
abbrev pub upper_from : ℕ → ℕ → List Proof → List ℕ
upper_from version i [] = []
upper_from version i (p ∷ ps) = part_lines (codes "upper") (part_number version i) p ++ upper_from version (i + 1) ps

abbrev pub lower_lines : Option Proof → List ℕ
lower_lines None = []
lower_lines (Some p) = part_lines (codes "lower") [] p

-- the lines that `synth --cert` writes behind those of `synth`
abbrev pub certificate_lines : Certificate → List ℕ
certificate_lines c =
    number_line (codes "certificate") (c.version ∷ [])
    ++ input_lines c.inputs
    ++ upper_from c.version 0 c.upper
    ++ lower_lines c.lower
    ++ mark_line (codes "end") []

-- all that `synth --cert` writes
abbrev pub certificate_text : Certificate → List ℕ
certificate_text c = c.text ++ result_lines c.choice c.value ++ certificate_lines c

-- Which certificates have a text

-- each literal and each name is a variable of the formula
pub record HasItsVariables (p : Proof) : Type 0 where
  pub names : All (λ v. v < p.formula.clauses.vars) p.formula.names
  pub clauses : AreWithin p.formula.clauses.vars p.formula.clauses.clauses
  pub log : AreWithin p.formula.clauses.vars p.log

-- these lines in a row, each with its line feed
abbrev pub lines_text : List (List ℕ) → List ℕ
lines_text lines = flat_map (λ line. line ++ codes "\n") lines

-- a line of a program: ASCII, and it does not begin with `//@`
pub record IsProgramLine (line : List ℕ) : Type 0 where
  pub one : All (λ b. b ≢ 10) line
  pub ascii : All (λ b. b < 128) line
  pub plain : (rest : List ℕ) → line ≡ codes "//@" ++ rest → ⊥

-- the text is lines of a program, each with its line feed
pub record IsProgramText (text : List ℕ) : Type 0 where
  pub lines : List (List ℕ)
  pub is : text ≡ lines_text lines
  pub each : All IsProgramLine lines

-- how many upper parts there are: with a choice one in version 1, and any number in version 2; without a choice none
abbrev pub FitsVersion : ℕ → Option Choice → List Proof → Type 0
FitsVersion version None upper = upper ≡ []
FitsVersion version (Some a) upper = version ≡ 1 → length upper ≡ 1

-- a lower part is there exactly where the value is above 0 or there is no choice, and without a choice the value is 0
abbrev pub FitsValue : Option Choice → ℕ → Option Proof → Type 0
FitsValue None value lower = (value ≡ 0) × ((p : Proof) × (lower ≡ Some p))
FitsValue (Some a) value None = value ≡ 0
FitsValue (Some a) value (Some p) = 0 < value

-- Numbers have 64 bits, and so have scalars with their sign. A list in memory has fewer than 2^64 items.

pub record IsSmallInput (i : CertInput) : Type 0 where
  pub obligation : i.obligation < 2 ^ 64
  pub scalars : All (All (IsWord 64)) i.args

pub record IsSmallProof (p : Proof) : Type 0 where
  pub vars : p.formula.clauses.vars < 2 ^ 64
  pub clauses : length p.formula.clauses.clauses < 2 ^ 64
  pub log : length p.log < 2 ^ 64

-- each value of a choice has 64 bits
abbrev pub HasSmallValues : Option Choice → Type 0
HasSmallValues choice = IfSome choice (λ a. All (λ n. n < 2 ^ 64) a.values)

pub record Has64Bits (c : Certificate) : Type 0 where
  pub value : c.value < 2 ^ 64
  pub holes : HasSmallValues c.choice
  pub count : length c.inputs < 2 ^ 64
  pub parts : length c.upper < 2 ^ 64
  pub inputs : All IsSmallInput c.inputs
  pub upper : All IsSmallProof c.upper
  pub lower : IfSome c.lower IsSmallProof

-- every argument has a scalar
abbrev pub HasScalars : CertInput → Type 0
HasScalars i = All (λ scalars. scalars ≢ []) i.args

-- What a certificate must be to be written.
pub record HasForm (c : Certificate) : Type 0 where
  pub version : (c.version ≡ 1) ⊎ (c.version ≡ 2)
  pub text : IsProgramText c.text
  pub args : All HasScalars c.inputs
  pub upper : FitsVersion c.version c.choice c.upper
  pub lower : FitsValue c.choice c.value c.lower
  pub each_upper : All HasItsVariables c.upper
  pub its_lower : IfSome c.lower HasItsVariables

-- Every certificate in memory has 64 bits in each number, so this asks no more of one than its form.
pub record HasText (c : Certificate) : Type 0 where
  pub form : HasForm c
  pub numbers : Has64Bits c

-- the text is that of this certificate
pub record IsCertificate (text : List ℕ) (c : Certificate) : Type 0 where
  pub has_text : HasText c
  pub is : text ≡ certificate_text c
