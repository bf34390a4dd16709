use Rattle.std.proofs.Common.{◌≡◌, ◌↔◌, IsTrue, subst}
use Rattle.dimacs_text.proofs.RowsLemmas.{text_at}
use Rattle.dimacs_text.proofs.read.is_at.Goals as goal

pub returns : goal.returns
returns c = subst (λ x. IsTrue c.is_same.result ↔ (x ≡ c.args.text.now)) (text_at c.args.words.now c.args.i _ c.requires) c.is_same.ensures
