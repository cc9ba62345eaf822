use Rattle.class_disk.proofs.Common.{◌≡◌, ◌≤◌, ◌++◌, drop, length, joined_of}
use Rattle.std.specs.Prelude.{vec_capacity}
use Rattle.class_disk.proofs.buffers.joined.Given as goal

-- what was taken so far and what is left is all, and all of it fits
abbrev pub invariant-loop-part : goal.invariant-loop-part
invariant-loop-part l = (l.bytes.items ++ joined_of (drop l.part-index l.parts) ≡ joined_of l.parts) × (length (joined_of l.parts) ≤ vec_capacity l.bytes)
