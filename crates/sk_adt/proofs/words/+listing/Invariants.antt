use Rattle.std.proofs.Common.{◌≡◌, ◌++◌, drop, map}
use Rattle.sk_adt.specs.Words.{each, types_of_piece, types_of_case, switches_of_piece, switches_of_case}
use Rattle.sk_adt.proofs.words.+listing.Given as goal

abbrev pub invariant-list_pieces-loop-piece : goal.invariant-list_pieces-loop-piece
invariant-list_pieces-loop-piece l = record {
  types : l.types ++ each (map types_of_piece (drop l.piece-index l.pieces)) ≡ l.fn.types ++ each (map types_of_piece l.pieces);
  switches : l.switches ++ each (map switches_of_piece (drop l.piece-index l.pieces)) ≡ l.fn.switches ++ each (map switches_of_piece l.pieces);
}

abbrev pub invariant-list_cases-loop-case : goal.invariant-list_cases-loop-case
invariant-list_cases-loop-case l = record {
  types : l.types ++ each (map types_of_case (drop l.case-index l.cases)) ≡ l.fn.types ++ each (map types_of_case l.cases);
  switches : l.switches ++ each (map (λ c. (switches_of_case c).1) (drop l.case-index l.cases)) ≡ l.fn.switches ++ each (map (λ c. (switches_of_case c).1) l.cases);
}
