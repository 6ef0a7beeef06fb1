-- What a decoding stop stands for.
-- Assumes nothing.
use Rattle.flow.specs.declared.Stop.{Stop}
use Rattle.rules.specs.declared.Violation.{Violation}

-- 1 or 2
abbrev pub of_stop : Stop → Violation
of_stop (Stop.Unknown offset byte) = Violation.UnknownOpcode offset byte
of_stop (Stop.Truncated offset opcode) = Violation.TruncatedInstruction offset opcode
