use Rattle.sk_adt.proofs.Listing.{switch_listed}
use Rattle.sk_adt.proofs.words.+listing.Goals as goal

pub list_piece-returns-in_ok-list_cases-in-Switch-clause-switches :
    goal.list_piece-returns-in_ok-list_cases-in-Switch-clause-switches
list_piece-returns-in_ok-list_cases-in-Switch-clause-switches t c =
    switch_listed c.args.piece.now c.in-Switch.head c.in-Switch.cases c.as_slice.result.now c.as_slice-in-Switch.result.now c.args.switches.now _ _ _ c.in-Switch.is c.as_slice.ensures c.as_slice-in-Switch.ensures
    c.in_ok-case_words-in-Switch.ensures c.in_ok-push-in-Switch.ensures.ok c.in_ok-list_cases-in-Switch.ensures.switches
