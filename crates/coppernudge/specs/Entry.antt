-- What the C entry returns and leaves in the buffer (01, "Bench file, program and C entry").
-- Assumes nothing.
use Rattle.std.specs.Prelude.{ℕ, ◌/◌, ◌%◌, cond, List, [], ◌∷◌, length, ltb, Ok, Err}
use Rattle.file.specs.Columns.{over}
use Rattle.answers.specs.declared.Fields.{Fields}
use Rattle.desk.specs.Desk.{Answer, desk_answer}

-- "the twelve fields": number, function, offset, a, b, c of both checks
unfoldable pub twelve_of : Fields → Fields → List ℕ
twelve_of s p =
    s.number ∷ (s.function ∷ (s.offset ∷ (s.a ∷ (s.b ∷ (s.c ∷
    (p.number ∷ (p.function ∷ (p.offset ∷ (p.a ∷ (p.b ∷ (p.c ∷ [])))))))))))

-- "32-bit two's complement, low byte first"
unfoldable pub bytes_of : List ℕ → List ℕ
bytes_of [] = []
bytes_of (w ∷ words) = w % 256 ∷ (w / 256 % 256 ∷ (w / 65536 % 256 ∷ (w / 16777216 % 256 ∷ bytes_of words)))

-- "An input refusal returns its number .. Otherwise it returns 0 and writes the twelve fields ..; later bytes keep their values."
unfoldable pub written : Answer → List ℕ → ℕ × List ℕ
written (Err refused) buffer = (refused.number, buffer)
written (Ok checked) buffer = (0, over (bytes_of (twelve_of checked.stack checked.pool)) buffer)

-- "Below 48 bytes it returns 30 unread."
unfoldable pub entry_of : List ℕ → List ℕ → ℕ × List ℕ
entry_of file buffer = cond (ltb (length buffer) 48) (30, buffer) (written (desk_answer file) buffer)
