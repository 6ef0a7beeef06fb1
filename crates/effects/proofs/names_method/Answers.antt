-- `effects::names_method` meets its contract: what all the bytes say. The invariant is `Scanned`.
-- Assumes nothing.
use Rattle.effects.proofs.Scanning.{says_all}
use Rattle.effects.proofs.names_method.Goals as goal

pub returns : goal.returns
returns c = let l = c.loop-byte in
    says_all c.args.code.now l.byte-index c.loop-byte-test.false l.named l.invariant.says
