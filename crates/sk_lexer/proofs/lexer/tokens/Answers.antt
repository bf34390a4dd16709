use Rattle.sk_lexer.proofs.Pieces.{one_list, not_both, list_or_memory, fault_or_memory}
use Rattle.sk_lexer.proofs.lexer.tokens.Goals as goal

pub returns-in-Ok-clause-only : goal.returns-in-Ok-clause-only
returns-in-Ok-clause-only c = λ ts a. one_list _ _ _ c.in-Ok.ensures.found a

pub returns-in-Ok-clause-only_fault : goal.returns-in-Ok-clause-only_fault
returns-in-Ok-clause-only_fault c = λ f at a. not_both _ _ f at c.in-Ok.ensures.found a

pub returns-in-Err-clause-only : goal.returns-in-Err-clause-only
returns-in-Err-clause-only c = λ ts a. list_or_memory _ ts _ c.in-Err.ensures.fault a

pub returns-in-Err-clause-only_fault : goal.returns-in-Err-clause-only_fault
returns-in-Err-clause-only_fault c = λ f at a. fault_or_memory _ f at _ c.in-Err.ensures.fault a
