-- The table of 64-bit ARM's names, as symbolic-cfi has it, in whose place a rule stands (document 02, request 4), and a family's table with it. proofs/Arm64.antt
-- compares the rule with it; nothing else uses it.
use Rattle.std.specs.Prelude.{ℕ, cond, List, [], ◌∷◌, eqb}
use Rattle.text.specs.Text.{ascii}
use Rattle.tables.specs.Tables.{i386, x86_64, arm, ppc, mips}

-- 64-bit ARM
unfoldable pub arm64 : List (List ℕ)
arm64 =
    ascii "x0" ∷ ascii "x1" ∷ ascii "x2" ∷ ascii "x3" ∷ ascii "x4" ∷ ascii "x5" ∷ ascii "x6" ∷ ascii "x7"
    ∷ ascii "x8" ∷ ascii "x9" ∷ ascii "x10" ∷ ascii "x11" ∷ ascii "x12" ∷ ascii "x13" ∷ ascii "x14" ∷ ascii "x15"
    ∷ ascii "x16" ∷ ascii "x17" ∷ ascii "x18" ∷ ascii "x19" ∷ ascii "x20" ∷ ascii "x21" ∷ ascii "x22" ∷ ascii "x23"
    ∷ ascii "x24" ∷ ascii "x25" ∷ ascii "x26" ∷ ascii "x27" ∷ ascii "x28" ∷ ascii "x29" ∷ ascii "x30" ∷ ascii "sp"
    ∷ ascii "" ∷ ascii "" ∷ ascii "" ∷ ascii "" ∷ ascii "" ∷ ascii "" ∷ ascii "" ∷ ascii ""
    ∷ ascii "" ∷ ascii "" ∷ ascii "" ∷ ascii "" ∷ ascii "" ∷ ascii "" ∷ ascii "" ∷ ascii ""
    ∷ ascii "" ∷ ascii "" ∷ ascii "" ∷ ascii "" ∷ ascii "" ∷ ascii "" ∷ ascii "" ∷ ascii ""
    ∷ ascii "" ∷ ascii "" ∷ ascii "" ∷ ascii "" ∷ ascii "" ∷ ascii "" ∷ ascii "" ∷ ascii ""
    ∷ ascii "v0" ∷ ascii "v1" ∷ ascii "v2" ∷ ascii "v3" ∷ ascii "v4" ∷ ascii "v5" ∷ ascii "v6" ∷ ascii "v7"
    ∷ ascii "v8" ∷ ascii "v9" ∷ ascii "v10" ∷ ascii "v11" ∷ ascii "v12" ∷ ascii "v13" ∷ ascii "v14" ∷ ascii "v15"
    ∷ ascii "v16" ∷ ascii "v17" ∷ ascii "v18" ∷ ascii "v19" ∷ ascii "v20" ∷ ascii "v21" ∷ ascii "v22" ∷ ascii "v23"
    ∷ ascii "v24" ∷ ascii "v25" ∷ ascii "v26" ∷ ascii "v27" ∷ ascii "v28" ∷ ascii "v29" ∷ ascii "v30" ∷ ascii "v31" ∷ []

-- a family's table, 64-bit ARM's among them
unfoldable pub table_before : ℕ → List (List ℕ)
table_before f =
    cond (eqb f 1) i386 (cond (eqb f 2) x86_64 (cond (eqb f 3) arm (cond (eqb f 4) arm64 (cond (eqb f 5) ppc (cond (eqb f 6) ppc
    (cond (eqb f 7) mips (cond (eqb f 8) mips (cond (eqb f 9) arm64 []))))))))
