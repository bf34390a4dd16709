use Rattle.sk_sym_operators.proofs.Computing.{add_is, sub_is, mul_is, lt_is, le_is, gt_is, ge_is}
use Rattle.sk_sym_operators.proofs.Meaning.{no_words}
use Rattle.sk_sym_operators.proofs.words.on_ring.Goals as goal

pub returns-in_ok-made-in-Add-clause-computed : goal.returns-in_ok-made-in-Add-clause-computed
returns-in_ok-made-in-Add-clause-computed c = add_is _ _ _ _ c.in-Add.is c.in_ok-r-in-Add.ensures.value c.in_ok-made-in-Add.ensures.keeps c.in_ok-made-in-Add.ensures.computed

pub returns-in_ok-made-in-Sub-clause-computed : goal.returns-in_ok-made-in-Sub-clause-computed
returns-in_ok-made-in-Sub-clause-computed c = sub_is _ _ _ _ c.in-Sub.is c.in_ok-r-in-Sub.ensures.value c.in_ok-made-in-Sub.ensures.keeps c.in_ok-made-in-Sub.ensures.computed

pub returns-in_ok-made-in-Mul-clause-computed : goal.returns-in_ok-made-in-Mul-clause-computed
returns-in_ok-made-in-Mul-clause-computed c = mul_is _ _ _ _ c.in-Mul.is c.in_ok-r-in-Mul.ensures.value c.in_ok-made-in-Mul.ensures.keeps c.in_ok-made-in-Mul.ensures.computed

pub returns-in_ok-made-in-Lt-clause-computed : goal.returns-in_ok-made-in-Lt-clause-computed
returns-in_ok-made-in-Lt-clause-computed c = lt_is _ _ _ _ c.in-Lt.is c.in_ok-r-in-Lt.ensures.value c.in_ok-made-in-Lt.ensures.keeps c.in_ok-made-in-Lt.ensures.computed

pub returns-in_ok-made-in-Le-clause-computed : goal.returns-in_ok-made-in-Le-clause-computed
returns-in_ok-made-in-Le-clause-computed c = le_is _ _ _ _ c.in-Le.is c.in_ok-r-in-Le.ensures.value c.in_ok-made-in-Le.ensures.keeps c.in_ok-made-in-Le.ensures.computed

pub returns-in_ok-made-in-Gt-clause-computed : goal.returns-in_ok-made-in-Gt-clause-computed
returns-in_ok-made-in-Gt-clause-computed c = gt_is _ _ _ _ c.in-Gt.is c.in_ok-r-in-Gt.ensures.value c.in_ok-made-in-Gt.ensures.keeps c.in_ok-made-in-Gt.ensures.computed

pub returns-in_ok-made-in-Ge-clause-computed : goal.returns-in_ok-made-in-Ge-clause-computed
returns-in_ok-made-in-Ge-clause-computed c = ge_is _ _ _ _ c.in-Ge.is c.in_ok-r-in-Ge.ensures.value c.in_ok-made-in-Ge.ensures.keeps c.in_ok-made-in-Ge.ensures.computed

pub returns-in_ok-made-in_default-clause-computed : goal.returns-in_ok-made-in_default-clause-computed
returns-in_ok-made-in_default-clause-computed c =
    let no = c.in_default in
    no_words _ _ _ c.requires.no_quotient c.requires.no_rest no.not-Add no.not-Sub no.not-Mul no.not-Lt no.not-Le no.not-Gt no.not-Ge c.in_ok-made-in_default.ensures.computed
