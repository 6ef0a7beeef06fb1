-- `effects::names_method` meets its contract. The invariant is `Scanned`: what the bytes before this one say.
-- Assumes nothing.
use Rattle.effects.proofs.Scanning.{Scanned}
use Rattle.effects.proofs.names_method.Given as goal

abbrev pub invariant-loop-byte : goal.invariant-loop-byte
invariant-loop-byte l = Scanned l.code l.byte-index l.named
