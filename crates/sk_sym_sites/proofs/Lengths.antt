-- How long lists of counts are.
use Rattle.std.proofs.lemmas.List.{length-map}

-- a list of counts is as long as the list that it is made of
pub ruleset mapped = (length-map)
