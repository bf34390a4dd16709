-- The lines that are written, and words behind the word `check`.
use Rattle.std.proofs.Common.{◌≡◌, ℕ, List, [], ◌∷◌, ◌++◌, refl, sym, ap, subst, ◌∙◌}
use Rattle.std.specs.Prelude.{map, String, string_bytes, codes}
use Rattle.std.specs.Fmt.{digits}
use Rattle.sk_app_texts.specs.CheckTexts.{Values, Inputs, Upper, Lower, Text, Formula, rejected_text}
use Rattle.sk_opts.specs.declared.line.Set.{Set}
use Rattle.sk_opts.specs.declared.line.Line.{Line}
use Rattle.sk_opts.specs.declared.line.Line.TheVariants as line
use Rattle.sk_opts.specs.CommandLine.{IsLine}
use Rattle.sk_opts.specs.Ranges.{IsInRanges, LineIsInRanges}
use Rattle.sk_check_app.specs.Call.{IsWords, IsNoWords}

-- the lines that are written

pub values_line : codes "rejected 1\n" ≡ rejected_text Values
unfolding digits
values_line = refl

pub inputs_line : codes "rejected 2\n" ≡ rejected_text Inputs
unfolding digits
inputs_line = refl

pub upper_line : codes "rejected 3\n" ≡ rejected_text Upper
unfolding digits
upper_line = refl

pub lower_line : codes "rejected 4\n" ≡ rejected_text Lower
unfolding digits
lower_line = refl

pub text_line : codes "rejected 5\n" ≡ rejected_text Text
unfolding digits
text_line = refl

pub formula_line : codes "rejected 6\n" ≡ rejected_text Formula
unfolding digits
formula_line = refl

-- one word more

moved : {Z : Type 0} (all rest : List (String Z)) (w : String Z) → map string_bytes (all ++ (w ∷ [])) ++ map string_bytes rest ≡ map string_bytes all ++ (string_bytes w ∷ map string_bytes rest)
moved [] rest w = refl
moved (x ∷ xs) rest w = ap (λ t. string_bytes x ∷ t) (moved xs rest w)

pub pushed : {Z : Type 0} (all rest : List (String Z)) (w : String Z) (ws : List (List ℕ)) → map string_bytes all ++ (string_bytes w ∷ map string_bytes rest) ≡ ws → map string_bytes (all ++ (w ∷ [])) ++ map string_bytes rest ≡ ws
pushed all rest w ws e = moved all rest w ∙ e

-- what a line is read as

pub are_words : (all words : List (List ℕ)) (l : Line) (set : Set) → all ≡ codes "check" ∷ words → IsLine all l → l ≡ line.Check set → IsWords words set
are_words all words l set e is f = subst (λ z. IsLine (codes "check" ∷ words) z) f (subst (λ ws. IsLine ws l) e is)

pub other_words : (all words : List (List ℕ)) (l : Line) → all ≡ codes "check" ∷ words → ((other : Line) → IsLine all other → other ≡ l) → ((set : Set) → l ≡ line.Check set → ⊥) → IsNoWords words
other_words all words l e only none set is = none set (sym (only (line.Check set) (subst (λ ws. IsLine ws (line.Check set)) (sym e) is)))

pub no_words : (all words : List (List ℕ)) → all ≡ codes "check" ∷ words → ((l : Line) → IsLine all l → ⊥) → IsNoWords words
no_words all words e none set is = none (line.Check set) (subst (λ ws. IsLine ws (line.Check set)) (sym e) is)

pub in_ranges : (l : Line) (set : Set) → LineIsInRanges l → l ≡ line.Check set → IsInRanges set
in_ranges l set h e = subst LineIsInRanges e h
