use Rattle.std.proofs.Common.{◌≡◌, length}
use Rattle.std.specs.List.{list_any}
use Rattle.sk_tree.specs.declared.token.Token.{Token}
use Rattle.sk_parser_laws.specs.Readers.{is_key}
use Rattle.sk_explain_causes.proofs.pieces.has_key.Given as goal

-- the tokens to come decide
abbrev pub invariant-loop-rest : goal.invariant-loop-rest
invariant-loop-rest l = list_any (λ (token : Token). is_key l.key token.kind) l.tokens ≡ list_any (λ (token : Token). is_key l.key token.kind) l.rest

abbrev pub decreases-loop-rest : goal.decreases-loop-rest
decreases-loop-rest l = length l.rest
