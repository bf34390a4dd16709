-- Numbers that write a listed input out, by which it is found again among others: that of its obligation, then each scalar by its
-- sign, 1 or 2, and its size, and a 0 behind those of each argument.
use Rattle.std.specs.Prelude.{ℕ, Bool, not, ◌&&◌, true, List, [], ◌∷◌, ◌++◌, ℤ, pos, negsuc}
use Rattle.std.specs.List.{flat_map, list_any}
use Rattle.std.specs.Cmp.Lexicographic.{slice_cmp}
use Rattle.std.specs.Ordering.{nat_cmp}
use Rattle.std.specs.BTreeMap.{is_at}
use Rattle.std.specs.BTreeSet.{insert_key}
use Rattle.sk_cert.specs.declared.certificate.CertInput.{CertInput}

abbrev pub scalar_words : ℤ → List ℕ
scalar_words (pos n) = 1 ∷ n ∷ []
scalar_words (negsuc n) = 2 ∷ n ∷ []

abbrev pub argument_words : List ℤ → List ℕ
argument_words scalars = flat_map scalar_words scalars ++ 0 ∷ []

abbrev pub words : CertInput → List ℕ
words c = c.obligation ∷ flat_map argument_words c.args

-- these numbers stand among those of others
abbrev pub among : List ℕ → List (List ℕ) → Bool
among w seen = list_any (is_at (slice_cmp nat_cmp w)) seen

-- none of the inputs is one that was seen, or one before it
abbrev pub all_new : List (List ℕ) → List CertInput → Bool
all_new seen [] = true
all_new seen (c ∷ cs) = not (among (words c) seen) && all_new (insert_key (slice_cmp nat_cmp) seen (words c)) cs
