use Rattle.std.proofs.Common.{◌∙◌, map, not, ap}
use Rattle.std.specs.BTreeSet.{insert_key}
use Rattle.std.specs.Cmp.Lexicographic.{slice_cmp}
use Rattle.std.specs.Ordering.{nat_cmp}
use Rattle.sk_cert_inputs.specs.Words.{among}
use Rattle.sk_cert_inputs.proofs.Fresh.{seen_among, seen_more}
use Rattle.sk_cert_inputs.proofs.apart.put.Goals as goal

pub returns-clause-new : goal.returns-clause-new
returns-clause-new c =
    c.in_ok-new.ensures.added
    ∙ ap not (seen_among c.in_ok-words.words c.args.seen.now.keys)
    ∙ ap (λ w. not (among w (map (λ key. key.items) c.args.seen.now.keys))) c.in_ok-words.ensures

pub returns-clause-seen : goal.returns-clause-seen
returns-clause-seen c =
    ap (map (λ key. key.items)) c.in_ok-new.ensures.keys
    ∙ seen_more c.in_ok-words.words c.args.seen.now.keys
    ∙ ap (insert_key (slice_cmp nat_cmp) (map (λ key. key.items) c.args.seen.now.keys)) c.in_ok-words.ensures
