-- Readers: functions of a text that answer what stands at its front and what is left behind that, or, where no such
-- thing stands, how many bytes are left from the first line on that departs from its form.
use Rattle.std.specs.Prelude.{◌≡◌, ℕ, zero, suc, ◌+◌, ◌-◌, ◌^◌, ◌==◌, nat_lt, Bool, true, false, if◌then◌else◌, List, [], ◌∷◌, ◌++◌, length, take, drop, Option, Some, None, Result, Ok, Err, codes}
use Rattle.std.specs.List.{position, list_all}
use Rattle.std.specs.Str.{bytes_eq}
use Rattle.sk_clause.specs.declared.lit.Lit.{Lit}
use Rattle.sk_model.specs.declared.expanded.Choice.{Choice}
use Rattle.sk_cert.specs.declared.certificate.Proof.{Proof}
use Rattle.sk_cert.specs.declared.certificate.CertInput.{CertInput}
use Rattle.sk_cert.specs.declared.certificate.Certificate.{Certificate}
use Rattle.sk_cert.specs.declared.lines.Sizes.{Sizes}
use Rattle.sk_cert.specs.declared.lines.Halt.{Halt}
use Rattle.sk_cert.specs.declared.lines.Halt.TheVariants as halt
use Rattle.sk_cert.specs.declared.lines.Front.{Front}
use Rattle.sk_cert.specs.declared.lines.Front.TheVariants as front
use Rattle.sk_cert.specs.Words.{number_in, numbers_in, version_in, input_in, sizes_in, names_in, clause_in}

abbrev pub Outcome : Type 0 → Type 0
Outcome A = Result (A × List ℕ) ℕ

abbrev pub Reader : Type 0 → Type 0
Reader A = List ℕ → Outcome A

infixl 10 ◌>>=◌
abbrev pub ◌>>=◌ : {A B : Type 0} → Outcome A → (A × List ℕ → Outcome B) → Outcome B
Ok v >>= f = f v
Err n >>= f = Err n

-- what a function makes of what was read
abbrev pub mapped : {A B : Type 0} → (A → B) → Reader A → Reader B
mapped f r bs = r bs >>= λ v. Ok (f v.0, v.1)

-- one thing, and behind it another that may rest on the first
abbrev pub pair : {A B : Type 0} → Reader A → (A → Reader B) → Reader (A × B)
pair r s bs = r bs >>= λ v. s v.0 v.1 >>= λ w. Ok ((v.0, w.0), w.1)

-- nothing is read
abbrev pub given : {A : Type 0} → A → Reader A
given a bs = Ok (a, bs)

-- One line

abbrev pub is_feed : ℕ → Bool
is_feed b = b == 10

abbrev pub passed : {A : Type 0} → Option A → List ℕ → ℕ → Outcome A
passed None bs i = Err (length bs)
passed (Some a) bs i = Ok (a, drop (i + 1) bs)

abbrev pub line_up_to : {A : Type 0} → (List ℕ → Option A) → List ℕ → Option ℕ → Outcome A
line_up_to f bs None = Err (length bs)
line_up_to f bs (Some i) = passed (f (take i bs)) bs i

-- what a function answers of the line without its line feed
unfoldable pub one : {A : Type 0} → (List ℕ → Option A) → Reader A
one f bs = line_up_to f bs (position is_feed bs)

-- So many lines

abbrev pub onto : {A : Type 0} → A × List A → List A
onto v = v.0 ∷ v.1

abbrev pub repeated : {A : Type 0} → Reader A → ℕ → Reader (List A)
repeated r zero bs = Ok ([], bs)
repeated r (suc n) bs = mapped onto (pair r (λ a. repeated r n)) bs

-- The program, and whether a completion is behind it

abbrev pub front_of : List ℕ → Option Front
front_of line =
    if bytes_eq (take 3 line) (codes "//@") then
    (if bytes_eq line (codes "//@ completion") then Some (front.Ends true)
    else if bytes_eq line (codes "//@ none") then Some (front.Ends false)
    else None)
    else if list_all (λ b. nat_lt b 128) line then Some front.Program
    else None

-- text in front of a program
abbrev pub longer : List ℕ → Outcome (List ℕ × Bool) → Outcome (List ℕ × Bool)
longer text o = o >>= λ w. Ok ((text ++ w.0.0, w.0.1), w.1)

abbrev pub program_as : Reader (List ℕ × Bool) → List ℕ → ℕ → Option Front → Outcome (List ℕ × Bool)
program_as again bs i None = Err (length bs)
program_as again bs i (Some front.Program) = longer (take (i + 1) bs) (again (drop (i + 1) bs))
program_as again bs i (Some (front.Ends done)) = Ok (([], done), drop (i + 1) bs)

abbrev pub program_up_to : Reader (List ℕ × Bool) → List ℕ → Option ℕ → Outcome (List ℕ × Bool)
program_up_to again bs None = Err (length bs)
program_up_to again bs (Some i) = program_as again bs i (front_of (take i bs))

-- a program of fewer lines than these
abbrev pub program_within : ℕ → Reader (List ℕ × Bool)
program_within zero bs = Err (length bs)
program_within (suc n) bs = program_up_to (program_within n) bs (position is_feed bs)

-- each line has a byte, so there are no more lines than bytes
unfoldable pub program : Reader (List ℕ × Bool)
program bs = program_within (length bs) bs

-- The result

abbrev pub choice_of : ℕ × List ℕ → Option Choice × ℕ
choice_of v = (Some (record { values = v.1 }), v.0)

abbrev pub result_behind : Bool → Reader (Option Choice × ℕ)
result_behind true = mapped choice_of (pair (one (number_in (codes "value"))) (λ v. one (numbers_in (codes "holes"))))
result_behind false = given (None, 0)

-- Inputs

abbrev pub second : {A B : Type 0} → A × B → B
second v = v.1

unfoldable pub inputs : Reader (List CertInput)
inputs = mapped second (pair (one (number_in (codes "inputs"))) (repeated (one input_in)))

-- Parts

abbrev pub proof_of : ℕ → List ℕ × (List (List Lit) × List (List Lit)) → Proof
proof_of vars v = record { formula = record { clauses = record { vars = vars; clauses = v.1.0 }; names = v.0 }; log = v.1.1 }

-- the lines of a part of these sizes
unfoldable pub rows : Sizes → Reader Proof
rows z =
    mapped (proof_of z.vars)
    (pair (one (names_in z.vars)) (λ names.
    pair (repeated (one (clause_in (codes "c") z.vars)) z.clauses) (λ clauses.
    repeated (one (clause_in (codes "l") z.vars)) z.log)))

unfoldable pub part : List ℕ → Option ℕ → Reader Proof
part kind number = mapped second (pair (one (sizes_in kind number)) rows)

abbrev pub ended : Option Proof → List ℕ → Option (Option Proof)
ended lower line = if bytes_eq line (codes "//@ end") then Some lower else None

-- the lower part, where one is needed, and the last line
abbrev pub tail : Bool → Reader (Option Proof)
tail true = mapped second (pair (part (codes "lower") None) (λ p. one (ended (Some p))))
tail false = one (ended None)

abbrev pub upper_behind : Reader (List Proof) → List ℕ → Outcome Sizes → Outcome (List Proof)
upper_behind again bs (Err n) = Ok ([], bs)
upper_behind again bs (Ok z) = rows z.0 z.1 >>= λ p. again p.1 >>= λ w. Ok (p.0 ∷ w.0, w.1)

-- the upper parts from this number on, so many at most
unfoldable pub uppers : ℕ → ℕ → Reader (List Proof)
uppers zero i bs = Ok ([], bs)
uppers (suc n) i bs = upper_behind (uppers n (i + 1)) bs (one (sizes_in (codes "upper") (Some i)) bs)

abbrev pub single : Proof → List Proof
single p = p ∷ []

-- so many upper parts a certificate of version 2 has at most
abbrev pub most_parts : ℕ
most_parts = 2 ^ 64 - 1

-- the upper parts of a certificate of this version, with a choice or without one
abbrev pub upper_parts : ℕ → Option Choice → Reader (List Proof)
upper_parts version None = given []
upper_parts version (Some a) = if version == 1 then mapped single (part (codes "upper") None) else uppers most_parts 0

abbrev pub needs_below : Option Choice → ℕ → Bool
needs_below None value = true
needs_below (Some a) value = nat_lt 0 value

abbrev pub needs_lower : Option Choice × ℕ → Bool
needs_lower r = needs_below r.0 r.1

-- The whole

abbrev pub Parts : Type 0
Parts = (List ℕ × Bool) × ((Option Choice × ℕ) × (ℕ × (List CertInput × (List Proof × Option Proof))))

abbrev pub certificate_of : Parts → Certificate
certificate_of v = record { version = v.1.1.0; text = v.0.0; choice = v.1.0.0; value = v.1.0.1; inputs = v.1.1.1.0; upper = v.1.1.1.1.0; lower = v.1.1.1.1.1 }

unfoldable pub certificate : Reader Certificate
certificate =
    mapped certificate_of
    (pair program (λ p.
    pair (result_behind p.1) (λ r.
    pair (one version_in) (λ v.
    pair inputs (λ i.
    pair (upper_parts v r.0) (λ u. tail (needs_lower r)))))))

abbrev pub all_read : Certificate → List ℕ → Result Certificate ℕ
all_read c [] = Ok c
all_read c (b ∷ bs) = Err (length (b ∷ bs))

abbrev pub finished : Outcome Certificate → Result Certificate ℕ
finished (Ok v) = all_read v.0 v.1
finished (Err n) = Err n

-- the certificate that the text is, or how many bytes are left from the first line on that departs
unfoldable pub whole : List ℕ → Result Certificate ℕ
whole bs = finished (certificate bs)

-- What a reader of the code answered is what the function answers, unless memory ran out.

abbrev pub Fails : {Y : Type 0} → Halt → Result Y ℕ → Type 0
Fails halt.NoMemory read = Unit {0}
Fails (halt.Departs left) read = read ≡ Err left

abbrev pub Gives : {X Y : Type 0} → (X → Y) → Result X Halt → Result Y ℕ → Type 0
Gives view (Ok x) read = read ≡ Ok (view x)
Gives view (Err e) read = Fails e read
