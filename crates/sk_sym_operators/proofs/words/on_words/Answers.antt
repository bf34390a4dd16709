use Rattle.sk_sym_operators.proofs.Computing.{op_is}
use Rattle.sk_sym_operators.proofs.words.on_words.Goals as goal

pub returns-in_ok-made-in-Div-clause-computed : goal.returns-in_ok-made-in-Div-clause-computed
returns-in_ok-made-in-Div-clause-computed c = op_is _ _ _ _ c.in-Div.is c.in_ok-made-in-Div.ensures.computed

pub returns-in_ok-made-in-Rem-clause-computed : goal.returns-in_ok-made-in-Rem-clause-computed
returns-in_ok-made-in-Rem-clause-computed c = op_is _ _ _ _ c.in-Rem.is c.in_ok-made-in-Rem.ensures.computed
