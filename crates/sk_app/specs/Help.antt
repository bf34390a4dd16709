-- What the lines `--help` and `--version` write.
use Rattle.std.specs.Prelude.{ℕ, List, ◌++◌, codes}

-- how the program is called, and its options
abbrev pub usage_text : List ℕ
usage_text =
    codes "Completes sketches: programs with holes, and harnesses that say what must hold.\n"
    ++ codes "\n"
    ++ codes "sketch synth [OPTION].. < SKETCH               writes the completed sketch, or the line //@ none\n"
    ++ codes "sketch exec [OPTION].. NAME VALUE.. < PROGRAM  writes what the function NAME gives for the values\n"
    ++ codes "sketch trace [OPTION].. NAME VALUE.. < SKETCH  writes each step of that run, in a filling\n"
    ++ codes "sketch lower [OPTION].. < TEXT                 writes the plain sketch of a text with algebraic types\n"
    ++ codes "sketch prune [OPTION].. < PROGRAM              writes the program without what no run can reach\n"
    ++ codes "sketch all [OPTION].. K < SKETCH               writes the hole values of up to K completions\n"
    ++ codes "sketch why [OPTION].. < SKETCH                 writes inputs that leave no completion, or //@ met\n"
    ++ codes "sketch check [OPTION].. < INPUT                judges what synth --cert wrote, behind the sketch and a line //%%\n"
    ++ codes "sketch self N                                  completes a sketch of its own, and writes a summary\n"
    ++ codes "sketch --help                                  writes this help\n"
    ++ codes "sketch --version                               writes the version\n"
    ++ codes "\n"
    ++ codes "An option is --name N or --name=N, and stands once.\n"
    ++ codes "\n"
    ++ codes "  --bnd-cbits        1 to 16, else 5          bits of a hole ??\n"
    ++ codes "  --bnd-inbits       1 to 16, else 5          bits of an integer input\n"
    ++ codes "  --bnd-unroll-amnt  0 to 64, else 8          turns of a loop\n"
    ++ codes "  --bnd-inline-amnt  1 to 16, else 5          active calls of one function\n"
    ++ codes "  --int-bits         6 to 32, else 16         bits of int\n"
    ++ codes "  --rounds           0 to 1000000, else 0     inputs that speak against choices; 0 is no limit\n"
    ++ codes "  --conflicts        0 to 1000000000, else 0  clauses learnt in one call; 0 is no limit\n"
    ++ codes "  --holes            N,N.., else none         what trace puts in for the sites, as in a line //@ holes\n"
    ++ codes "  --cert             no value                 puts a certificate behind what synth writes\n"

-- the statuses with which it ends, and who gets lines for people
abbrev pub statuses_text : List ℕ
statuses_text =
    codes "\n"
    ++ codes "It ends with one of these, and from 10 on says more on standard error.\n"
    ++ codes "\n"
    ++ codes "   0  completed, or accepted, or the run is done, or what lower, prune, all or why found is written\n"
    ++ codes "   1  no completion meets the harnesses and references on every input\n"
    ++ codes "   2  a budget is spent, and no completion is known\n"
    ++ codes "   3  a budget is spent; the completion may not cost least\n"
    ++ codes "   4  the run failed\n"
    ++ codes "   5  the run was skipped\n"
    ++ codes "   6  check rejects the certificate\n"
    ++ codes "   7  why found a completion\n"
    ++ codes "  10  the words are no command line\n"
    ++ codes "  11  the text has no tokens, or reads as no program\n"
    ++ codes "  12  the text breaks a rule of types\n"
    ++ codes "  13  its program is too large\n"
    ++ codes "  14  standard input failed\n"
    ++ codes "  15  standard output failed\n"
    ++ codes "  16  the sketch has more than 1048576 bytes, or the input of check more than 67108864\n"
    ++ codes "  17  out of memory\n"
    ++ codes "  18  the function cannot be run, or what prune reads is open\n"
    ++ codes "  19  behind the sketch stands no certificate\n"
    ++ codes "  21  algebraic types of the text have no plain form\n"
    ++ codes "  22  the numbers of --holes do not fill the sketch\n"
    ++ codes "  23  a variable is used otherwise than as its variant\n"
    ++ codes "\n"
    ++ codes "SKETCH_EXPLAIN=1 writes more lines for people to standard error behind the message, =0 none;\n"
    ++ codes "else they are written where standard error is a terminal.\n"
    ++ codes "SKETCH_PROGRESS=1 shows there that a search goes on, =0 does not, else a terminal shows it;\n"
    ++ codes "SKETCH_STATS=1 writes there at the end what was counted.\n"

abbrev pub help_text : List ℕ
help_text = usage_text ++ statuses_text

abbrev pub version_text : List ℕ
version_text = codes "sketch 0.1.0\n"
