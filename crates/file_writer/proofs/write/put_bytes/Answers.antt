-- `file_writer::write::put_bytes` meets its contract: the bytes are laid over the buffer where they fit (WriteLaws.antt). Assumes nothing.
use Rattle.std.proofs.Common.{arith}
use Rattle.file_writer.proofs.WriteLaws.{put_back, bytes_fit, bytes_full}
use Rattle.file_writer.proofs.write.put_bytes.Goals as goal
use Rattle.file_writer.proofs.write.put_bytes.Goals.{then-buffer-at-via-then-buffer-at, then-buffer-at-via-else-buffer-at+then-buffer-at-2}

pub returns-then-buffer-at : goal.returns-then-buffer-at
returns-then-buffer-at c = bytes_full c.args.buffer.now c.args.bytes.now c.args.at
    (elim c.then-buffer-at.branch [ then-buffer-at-via-then-buffer-at w ↦ omega arith | then-buffer-at-via-else-buffer-at+then-buffer-at-2 w ↦ omega arith ])

pub returns : goal.returns
returns c = bytes_fit c.args.buffer.now c.args.bytes.now c.args.at _ (omega arith) (put_back c.args.buffer.now c.args.bytes.now c.copy_from_slice.new.self c.args.at c.copy_from_slice.ensures.after)
