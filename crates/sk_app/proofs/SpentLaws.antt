-- Parts of the texts of a spent budget.
use Rattle.std.proofs.Common.{◌≡◌, ℕ, List, ◌++◌, Option, Some, None, refl}
use Rattle.std.proofs.lemmas.List.{append_assoc}
use Rattle.sk_model.specs.declared.expanded.Choice.{Choice}
use Rattle.sk_model.specs.declared.expanded.Expanded.{Expanded}
use Rattle.sk_app.specs.SpentText.{Spent, spent_lines, known_text, spent_result}

-- the choice that is known stands first
pub known_first : (e : Expanded) (best : Option Choice) (spent : Spent) → known_text e best ++ spent_lines spent ≡ spent_result e best spent
known_first e None spent = refl
known_first e (Some a) spent = refl

-- parts, one behind the other
pub three_join : (o a b c : List ℕ) → ((o ++ a) ++ b) ++ c ≡ o ++ ((a ++ b) ++ c)
three_join o a b c = simp append_assoc refl

pub four_join : (o a b c d : List ℕ) → (((o ++ a) ++ b) ++ c) ++ d ≡ o ++ (((a ++ b) ++ c) ++ d)
four_join o a b c d = simp append_assoc refl
