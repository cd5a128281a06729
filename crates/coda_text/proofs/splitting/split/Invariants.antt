use Rattle.std.proofs.Common.{◌≡◌, ◌++◌, ◌≤◌, ◌-◌, length, map}
use Rattle.coda_text.specs.Words.{split_of}
use Rattle.coda_text.specs.Steps.{split_from}
use Rattle.coda_text.specs.Tokens.{token_of}
use Rattle.coda_text.proofs.splitting.split.Given as goal

abbrev pub invariant-loop-out : goal.invariant-loop-out
invariant-loop-out l = record {
  within : l.at ≤ length l.line;
  words : map token_of (split_of l.line).words ≡ l.out.items ++ map token_of (split_from l.line l.at).words;
  end : (split_of l.line).end ≡ (split_from l.line l.at).end;
  breaks : (split_of l.line).breaks ≡ (split_from l.line l.at).breaks;
}

abbrev pub decreases-loop-out : goal.decreases-loop-out
decreases-loop-out l = length l.line - l.at
