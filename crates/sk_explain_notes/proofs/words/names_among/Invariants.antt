use Rattle.std.proofs.Common.{◌≡◌, ◌++◌, map, drop}
use Rattle.std.specs.List.{filter}
use Rattle.sk_explain_notes.specs.Options.{choice_name, command_has}
use Rattle.sk_explain_notes.proofs.words.names_among.Given as goal

abbrev pub invariant-loop-choice : goal.invariant-loop-choice
invariant-loop-choice l =
    map (λ name. name.now) l.names.items ++ map choice_name (filter (command_has l.command) (drop l.choice-index l.choices)) ≡ map choice_name (filter (command_has l.command) l.choices)
