-- Names as records write them (document 01, Names): registers of DWARF rows, registers of ARM64 unwind codes, and the code's names. Those of x64 unwind
-- codes stand in tables.
use Rattle.std.specs.Prelude.{ℕ, ◌-◌, cond, ◌&&◌, ◌||◌, List, [], ◌++◌, take, eqb, leb}
use Rattle.text.specs.Text.{ascii}
use Rattle.digits.specs.Digits.{decimal}
use Rattle.tables.specs.Tables.{listed_name}
use Rattle.names.specs.declared.Name.{Name}
pub mod Laws

-- 64-bit ARM in DWARF rows (document 02, request 4): x and the number up to 30, sp at 31, v and the number less 64 from 64 to 95, otherwise no name
unfoldable pub arm64_cfi_name : ℕ → List ℕ
arm64_cfi_name register =
    cond (leb register 30) (ascii "x" ++ decimal register)
    (cond (eqb register 31) (ascii "sp")
    (cond (leb 64 register && leb register 95) (ascii "v" ++ decimal (register - 64)) []))

-- 01, Names: by family, numbered as `CpuFamily`: 4 Arm64 and 9 Arm64_32 by the rule, any other by its table
unfoldable pub cfi_name : ℕ → ℕ → List ℕ
cfi_name family register = cond (eqb family 4 || eqb family 9) (arm64_cfi_name register) (listed_name family register)

-- registers of ARM64 unwind codes: letter 0 x, 1 d, any other q
unfoldable pub letter_of : ℕ → List ℕ
letter_of l = cond (eqb l 0) (ascii "x") (cond (eqb l 1) (ascii "d") (ascii "q"))

-- 01, ARM64 body: letter and number, with a point before them
unfoldable pub arm64_name : ℕ → ℕ → List ℕ
arm64_name l register = ascii "." ++ letter_of l ++ decimal register

-- the code's name, fixed bytes with a length; of length 0 it is no name
unfoldable pub name_text : Name → List ℕ
name_text n = take n.len n.bytes
