use Rattle.std.proofs.Common.{◌≡◌, ◌++◌, drop}
use Rattle.std.specs.List.{flat_map, zip}
use Rattle.sk_app_texts.specs.RunTexts.{ref_names, ref_line}
use Rattle.sk_exec_values.proofs.writer.push_refs.Given as goal

-- the text so far, and the lines of the parameters and values to come
abbrev pub invariant-loop-param : goal.invariant-loop-param
invariant-loop-param l =
    l.out.items ++ flat_map ref_line (zip (ref_names (drop l.param-index l.params)) l.values)
    ≡ l.fn.out.items ++ flat_map ref_line (zip (ref_names l.params) l.fn.values)
