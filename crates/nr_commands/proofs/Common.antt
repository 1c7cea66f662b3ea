-- The names that several proof files of this crate cite, passed on from one place. Declares nothing.
pub use Rattle.std.proofs.Common.{Bool, Err, Global, IfOk, IsErr, IsOkAnd, List, Ok, Option, Result, Vec, [], ap, append_assoc}
pub use Rattle.std.proofs.Common.{arith, codes, drop, false, flat_map, get_or, inl, inr, length, length-append, map, refl}
pub use Rattle.std.proofs.Common.{string_bytes, subst, suc, sym, take, w8, zero, ℕ, ◌*◌, ◌++◌, ◌+◌, ◌<◌}
pub use Rattle.std.proofs.Common.{◌∙◌, ◌∷◌, ◌≡◌, ◌≢◌, ◌≤◌}
pub use Rattle.std.proofs.lemmas.{List.append-nil, List.length-map, Result.err_from_is_err_and}
pub use Rattle.std.specs.{Fmt.decimal, List.range_with_len}
pub use Rattle.nr_bitvec.{proofs.OctetListFacts.length-bits_of, specs.BitList.bits_of}
pub use Rattle.nr_graphpick.specs.declared.Graph.{Graph}
pub use Rattle.nr_crcattach.specs.Attachment.{attached}
pub use Rattle.nr_segment.specs.CodeBlock.{code_bits, numbers}
pub use Rattle.nr_streams.{proofs.WrittenFacts.with_text-append, proofs.WrittenFacts.with_text-nil, specs.Sink.with_text}
pub use Rattle.nr_files.proofs.RefusalFacts.{err-is}
pub use Rattle.nr_commands.specs.{Command.Stops, Command.Writes, declared.fault.RunFault.RunFault}
pub use Rattle.nr_commands.specs.declared.fault.RunFault.TheVariants.{Memory, Write}
unfoldable pub use Rattle.nr_commands.specs.{CheckText.check_said, CheckText.graph_lines, CheckText.table_lines, Hex.hex}
unfoldable pub use Rattle.nr_commands.specs.CutLines.{attached_line, block_line, code_line}
unfoldable pub use Rattle.nr_commands.specs.{CutText.lines_from, CutText.planned_lines, inside.Words.first_digits}
