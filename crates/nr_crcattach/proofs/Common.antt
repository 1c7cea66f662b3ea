-- The names that several proof files of this crate cite, passed on from one place. Declares nothing.
pub use lib.Bits.{xor_assoc, xor_self, xor_zero_r}
pub use Rattle.std.proofs.Common.{[], length-append, length-drop, length-take, ◌++◌, ◌∙◌, ◌∷◌, ◌≡◌, ◌≤◌}
pub use Rattle.std.proofs.Common.{bit_xor, get_or, length, ◌%◌, ◌*◌, ◌+◌, ◌-◌, ◌/◌, ◌<◌, ◌==◌, ◌^◌}
pub use Rattle.std.proofs.Common.{Bool, List, ap, arith, drop, false, inl, inr, lit≤, refl, suc, sym, take, true, zero, ℕ}
pub use Rattle.std.{proofs.Math.Nat.pow-succ', proofs.lemmas.Bool.cases_lt, proofs.lemmas.Bool.Decides.nat_tests, specs.Int.bit_at}
pub use Rattle.std.proofs.lemmas.Nat.{one_shl, pow_below, pow_pos, shr-shr, shr_below, xor_comm, xor_lt}
pub use Rattle.std.proofs.lemmas.Nat.Bits.{bit_at-lt, bit_at_xor}
pub use Rattle.nr_bitvec.proofs.PackedListFacts.{length-low_first}
pub use Rattle.nr_crcattach.specs.{Crc.crc_of, Crc.degree, Crc.generator, declared.Poly.Poly}
pub use Rattle.nr_crcattach.specs.declared.Poly.TheVariants.{A24, B24, C16}
unfoldable pub use Rattle.nr_bitvec.specs.BitList.{low_first}
unfoldable pub use Rattle.nr_crcattach.specs.Crc.{high_first, residue, rho, times_d}
unfoldable pub use Rattle.nr_crcattach.specs.inside.Octets.{flip, octet_residues, octet_tables}
