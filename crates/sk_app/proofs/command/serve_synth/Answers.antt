use Rattle.sk_app.proofs.command.serve_synth.Goals as goal

pub returns : goal.returns
returns g c =
    let s = c.synth.ensures in
    record {
      ends = s.ends;
      completed = s.completed;
      none = s.none;
      rounds = s.rounds;
      conflicts = s.conflicts;
      told = s.told;
      place = s.place;
      read_fault = s.read_fault;
      write_fault = s.write_fault;
      prefix = s.prefix;
      kept = s.kept;
      few = s.few;
    }
