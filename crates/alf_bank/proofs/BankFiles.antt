-- One bank at one depth has one file (02, card 2): "the reader accepts exactly what the writer can make and gives back its depth and bank".
-- The numbers with which they answer are `write_fault depth bank room`, for a buffer of so many bytes, and `read_fault file bank_length`; 0 is
-- acceptance. The writer makes `bank_file depth bank`, and the reader gives `read_depth file` and `read_bank file`. Assumes nothing.
use mathlib.Core.Path.{◌≡◌, refl, sym, ◌∙◌, ap}
use mathlib.Core.Bool.{Bool, true, false}
use mathlib.Core.List.{List}
use mathlib.Core.Logic.{◌↔◌}
use Prim.Native.Nat.{ℕ, ◌<◌}
use native.Mathlib.Omega.{arith}
use borrow.Author.Tests.{ltb-true, ltb-false}
use lib.Dec.{ltb}
use lib.IntN.{ℤ}
use lib.ListN.{length, get_or, get_or-eq_default}
use Rattle.alf_spec.specs.Faults.{unless}
use Rattle.alf_bank.specs.Writing.{bank_file, write_fault}
use Rattle.alf_bank.specs.Reading.{read_depth, read_bank, read_fault}
use Rattle.alf_bank.proofs.AcceptedFiles.{accepted-depth, accepted-length, accepted-numbers, accepted_file}
use Rattle.alf_bank.proofs.DecodedFields.{ByteReads}
use Rattle.alf_bank.proofs.ValidBanks.{accepted-bank}
use Rattle.alf_bank.proofs.WrittenBytes.{file_bytes}
use Rattle.alf_bank.proofs.WrittenFiles.{written_accepted, written_depth, written_bank}

-- the entries of a file are bytes: each is below 256
abbrev pub Bytes : List ℕ → Type 0
Bytes file = (k : ℕ) → k < length file → get_or file k 0 < 256

-- past the end of a list a read gives 0
pub byte_reads : (file : List ℕ) → Bytes file → ByteReads file
byte_reads file bytes k = by_test (ltb k (length file)) refl
  where
    by_test : (t : Bool) → ltb k (length file) ≡ t → get_or file k 0 < 256
    by_test true e = bytes k (ltb-true k (length file) e)
    by_test false e = rw (get_or-eq_default file 0 (ltb-false k (length file) e)) (omega arith)

-- ---- 1. What the reader accepts is what the writer makes of the depth and the bank that it gives.

pub accepted_written : (file : List ℕ) → Bytes file → read_fault file 6016 ≡ 0
    → (write_fault (read_depth file) (read_bank file) 10508 ≡ 0) × (bank_file (read_depth file) (read_bank file) ≡ file)
unfolding write_fault unless
accepted_written file bytes e =
    let reads = byte_reads file bytes in
    (rw (accepted-depth file reads e, accepted-length file reads e, accepted-numbers file reads e), accepted_file file reads e)

-- ---- 2. What the writer makes is a file of bytes, the reader accepts it, and gives the depth and the bank back.

pub written_bytes : (depth room : ℕ) (bank : List ℤ) → write_fault depth bank room ≡ 0 → Bytes (bank_file depth bank)
written_bytes depth room bank e k h = let a = accepted-bank depth bank room e in file_bytes depth bank a.deep a.numbers k

pub written_read : (depth room : ℕ) (bank : List ℤ) → write_fault depth bank room ≡ 0
    → (read_fault (bank_file depth bank) 6016 ≡ 0) × (read_depth (bank_file depth bank) ≡ depth) × (read_bank (bank_file depth bank) ≡ bank)
written_read depth room bank e =
    let a = accepted-bank depth bank room e in
    (written_accepted depth bank a.numbers a.deep, written_depth depth bank, written_bank depth bank a.numbers)

-- ---- 3. So the reader accepts exactly the files that the writer can make.

-- of a depth and a bank that the writer accepts, in the shortest buffer that it takes
pub record Made (file : List ℕ) : Type 0 where
  pub depth : ℕ
  pub bank : List ℤ
  pub accepted : write_fault depth bank 10508 ≡ 0
  pub is : bank_file depth bank ≡ file

pub accepts_what_is_written : (file : List ℕ) → (Bytes file × (read_fault file 6016 ≡ 0)) ↔ Made file
accepts_what_is_written file = (made, accepted)
  where
    made : Bytes file × (read_fault file 6016 ≡ 0) → Made file
    made a =
        let w = accepted_written file a.0 a.1 in
        record { depth = read_depth file; bank = read_bank file; accepted = w.0; is = w.1 }

    accepted : Made file → Bytes file × (read_fault file 6016 ≡ 0)
    accepted m =
        rw (← m.is)
        (written_bytes m.depth 10508 m.bank m.accepted, (written_read m.depth 10508 m.bank m.accepted).0)

-- ---- 4. And one bank at one depth has one file.

-- a file is of one depth and of one bank
pub one_file : (depth room : ℕ) (bank : List ℤ) (depth' room' : ℕ) (bank' : List ℤ)
    → write_fault depth bank room ≡ 0 → write_fault depth' bank' room' ≡ 0
    → bank_file depth bank ≡ bank_file depth' bank' → (depth ≡ depth') × (bank ≡ bank')
one_file depth room bank depth' room' bank' e e' same =
    let r = written_read depth room bank e in
    let r' = written_read depth' room' bank' e' in
    (sym r.1 ∙ ap read_depth same ∙ r'.1, sym r.2 ∙ ap read_bank same ∙ r'.2)

-- and no two files that are accepted are of the same depth and bank
pub no_other_file : (file file' : List ℕ) → Bytes file → Bytes file' → read_fault file 6016 ≡ 0 → read_fault file' 6016 ≡ 0
    → read_depth file ≡ read_depth file' → read_bank file ≡ read_bank file' → file ≡ file'
no_other_file file file' bytes bytes' e e' depth bank =
    sym (accepted_written file bytes e).1 ∙ rw (depth, bank) (accepted_written file' bytes' e').1
