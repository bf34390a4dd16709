-- How long lists of parts are.
use Rattle.std.proofs.lemmas.List.{length-map}

-- a list of parts is as long as the list that it is made of
pub ruleset mapped = (length-map)
