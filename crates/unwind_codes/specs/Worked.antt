-- Worked lists, as one table: each is what `decoded` computes. Every code is among them, and every refusal.
use Rattle.std.specs.Prelude.{Bool, ◌&&◌, List, [], ◌∷◌, ◌++◌, ℕ, zero, suc, T, eqb}
use Rattle.text.specs.Tests.{all, eqw}
use Rattle.unwind_codes.specs.UnwindCodes.{decoded, UnwindCodes·open}

-- bytes of a function at 4096 of 64 bytes, the room's length, and what the call comes to
pub record Case : Type 0 where
  pub bytes : List ℕ
  pub room : ℕ
  pub number : ℕ
  pub words : List ℕ

-- a body of these operations
abbrev done : List ℕ → ℕ → List ℕ → Case
done bytes n ops = record { bytes = bytes; room = 64; number = 0; words = 4096 ∷ 64 ∷ n ∷ ops }

abbrev refused : ℕ → List ℕ → Case
refused n bytes = record { bytes = bytes; room = 64; number = n; words = [] }

-- many times the same byte
many : ℕ → ℕ → List ℕ
many zero b = []
many (suc n) b = b ∷ many n b

pub cases : List Case
cases =
    -- alloc_s 16, save_r19r20_x 16, save_fplr 16, save_fplr_x 16, end, which closes the list
    done (1 ∷ 34 ∷ 66 ∷ 129 ∷ 228 ∷ 1 ∷ []) 5 (1 ∷ 0 ∷ 0 ∷ 16 ∷ 5 ∷ 0 ∷ 19 ∷ 16 ∷ 4 ∷ 0 ∷ 29 ∷ 16 ∷ 5 ∷ 0 ∷ 29 ∷ 16 ∷ 9 ∷ 0 ∷ 0 ∷ 0 ∷ [])
    -- alloc_m 4,112, alloc_l 1,052,688, end_c
    ∷ done (193 ∷ 1 ∷ 224 ∷ 1 ∷ 1 ∷ 1 ∷ 229 ∷ []) 3 (1 ∷ 0 ∷ 0 ∷ 4112 ∷ 1 ∷ 0 ∷ 0 ∷ 1052688 ∷ 9 ∷ 0 ∷ 0 ∷ 0 ∷ [])
    -- save_regp x21 16, save_regp_x x21 24, save_reg x21 16, save_reg_x x21 24, save_lrpair x23 16; the bytes' end
    ∷ done (200 ∷ 130 ∷ 204 ∷ 130 ∷ 208 ∷ 130 ∷ 212 ∷ 66 ∷ 214 ∷ 130 ∷ []) 5
    (4 ∷ 0 ∷ 21 ∷ 16 ∷ 5 ∷ 0 ∷ 21 ∷ 24 ∷ 2 ∷ 0 ∷ 21 ∷ 16 ∷ 3 ∷ 0 ∷ 21 ∷ 24 ∷ 6 ∷ 0 ∷ 23 ∷ 16 ∷ [])
    -- save_fregp d10 16, save_fregp_x d10 24, save_freg d10 16, save_freg_x d10 24
    ∷ done (216 ∷ 130 ∷ 218 ∷ 130 ∷ 220 ∷ 130 ∷ 222 ∷ 66 ∷ []) 4 (4 ∷ 1 ∷ 10 ∷ 16 ∷ 5 ∷ 1 ∷ 10 ∷ 24 ∷ 2 ∷ 1 ∷ 10 ∷ 16 ∷ 3 ∷ 1 ∷ 10 ∷ 24 ∷ [])
    -- x34, past the last register
    ∷ done (203 ∷ 255 ∷ []) 1 (4 ∷ 0 ∷ 34 ∷ 504 ∷ [])
    -- alloc_z, set_fp, add_fp, nop, pac_sign_lr: no kind of their own
    ∷ done (223 ∷ 9 ∷ 225 ∷ 226 ∷ 9 ∷ 227 ∷ 252 ∷ []) 5 (8 ∷ 0 ∷ 0 ∷ 0 ∷ 8 ∷ 0 ∷ 0 ∷ 0 ∷ 8 ∷ 0 ∷ 0 ∷ 0 ∷ 8 ∷ 0 ∷ 0 ∷ 0 ∷ 8 ∷ 0 ∷ 0 ∷ 0 ∷ [])
    -- save_next twice behind save_regp x19
    ∷ done (230 ∷ 230 ∷ 200 ∷ 2 ∷ []) 3 (7 ∷ 0 ∷ 0 ∷ 0 ∷ 7 ∷ 0 ∷ 0 ∷ 0 ∷ 4 ∷ 0 ∷ 19 ∷ 16 ∷ [])
    -- save_any_reg at o = 3: x5 24, x5 pre-indexed 64, x5 pair 48, x5 pair pre-indexed 64
    ∷ done (231 ∷ 5 ∷ 3 ∷ 231 ∷ 37 ∷ 3 ∷ 231 ∷ 69 ∷ 3 ∷ 231 ∷ 101 ∷ 3 ∷ []) 4
    (2 ∷ 0 ∷ 5 ∷ 24 ∷ 3 ∷ 0 ∷ 5 ∷ 64 ∷ 4 ∷ 0 ∷ 5 ∷ 48 ∷ 5 ∷ 0 ∷ 5 ∷ 64 ∷ [])
    -- the same of d5
    ∷ done (231 ∷ 5 ∷ 67 ∷ 231 ∷ 37 ∷ 67 ∷ 231 ∷ 69 ∷ 67 ∷ 231 ∷ 101 ∷ 67 ∷ []) 4
    (2 ∷ 1 ∷ 5 ∷ 24 ∷ 3 ∷ 1 ∷ 5 ∷ 64 ∷ 4 ∷ 1 ∷ 5 ∷ 48 ∷ 5 ∷ 1 ∷ 5 ∷ 64 ∷ [])
    -- the same of q5, 48 where it is single
    ∷ done (231 ∷ 5 ∷ 131 ∷ 231 ∷ 37 ∷ 131 ∷ 231 ∷ 69 ∷ 131 ∷ 231 ∷ 101 ∷ 131 ∷ []) 4
    (2 ∷ 2 ∷ 5 ∷ 48 ∷ 3 ∷ 2 ∷ 5 ∷ 64 ∷ 4 ∷ 2 ∷ 5 ∷ 48 ∷ 5 ∷ 2 ∷ 5 ∷ 64 ∷ [])
    -- save_zreg, save_preg of P4 and of P15, then of P3, which is reserved
    ∷ done (231 ∷ 4 ∷ 195 ∷ 231 ∷ 20 ∷ 195 ∷ 231 ∷ 31 ∷ 195 ∷ 231 ∷ 19 ∷ 195 ∷ 227 ∷ []) 4
    (8 ∷ 0 ∷ 0 ∷ 0 ∷ 8 ∷ 0 ∷ 0 ∷ 0 ∷ 8 ∷ 0 ∷ 0 ∷ 0 ∷ 10 ∷ 0 ∷ 0 ∷ 0 ∷ [])
    -- bit 7 of save_any_reg
    ∷ done (231 ∷ 128 ∷ 0 ∷ 227 ∷ []) 1 (10 ∷ 0 ∷ 0 ∷ 0 ∷ [])
    -- the five custom stacks; nothing behind is read
    ∷ done (227 ∷ 232 ∷ 224 ∷ []) 2 (8 ∷ 0 ∷ 0 ∷ 0 ∷ 10 ∷ 0 ∷ 0 ∷ 0 ∷ [])
    ∷ done (233 ∷ []) 1 (10 ∷ 0 ∷ 0 ∷ 0 ∷ [])
    ∷ done (234 ∷ []) 1 (10 ∷ 0 ∷ 0 ∷ 0 ∷ [])
    ∷ done (235 ∷ []) 1 (10 ∷ 0 ∷ 0 ∷ 0 ∷ [])
    ∷ done (236 ∷ []) 1 (10 ∷ 0 ∷ 0 ∷ 0 ∷ [])
    -- reserved, of one byte
    ∷ done (237 ∷ []) 1 (10 ∷ 0 ∷ 0 ∷ 0 ∷ [])
    ∷ done (239 ∷ []) 1 (10 ∷ 0 ∷ 0 ∷ 0 ∷ [])
    ∷ done (247 ∷ []) 1 (10 ∷ 0 ∷ 0 ∷ 0 ∷ [])
    ∷ done (253 ∷ []) 1 (10 ∷ 0 ∷ 0 ∷ 0 ∷ [])
    ∷ done (255 ∷ []) 1 (10 ∷ 0 ∷ 0 ∷ 0 ∷ [])
    -- of two to five
    ∷ done (248 ∷ 0 ∷ []) 1 (10 ∷ 0 ∷ 0 ∷ 0 ∷ [])
    ∷ done (249 ∷ 0 ∷ 0 ∷ []) 1 (10 ∷ 0 ∷ 0 ∷ 0 ∷ [])
    ∷ done (250 ∷ 0 ∷ 0 ∷ 0 ∷ []) 1 (10 ∷ 0 ∷ 0 ∷ 0 ∷ [])
    ∷ done (251 ∷ 0 ∷ 0 ∷ 0 ∷ 0 ∷ []) 1 (10 ∷ 0 ∷ 0 ∷ 0 ∷ [])
    -- 12: inside codes of two, three, four and five bytes
    ∷ refused 12 (227 ∷ 200 ∷ [])
    ∷ refused 12 (231 ∷ 5 ∷ [])
    ∷ refused 12 (224 ∷ 0 ∷ 0 ∷ [])
    ∷ refused 12 (251 ∷ 0 ∷ 0 ∷ 0 ∷ [])
    -- 4: 1,025 operations; 12 before it
    ∷ refused 4 (many 1025 227)
    ∷ refused 12 (many 1025 227 ++ (248 ∷ []))
    -- no code at all
    ∷ done [] 0 []
    -- 9: a room of one word less; just enough
    ∷ record { bytes = 227 ∷ []; room = 6; number = 9; words = [] }
    ∷ record { bytes = 227 ∷ []; room = 7; number = 0; words = 4096 ∷ 64 ∷ 1 ∷ 8 ∷ 0 ∷ 0 ∷ 0 ∷ [] }
    ∷ []

pub passes : Case → Bool
passes c =
    let f = decoded c.bytes 4096 64 c.room in
    eqb f.number c.number && eqw f.placed c.words

pub worked : T (all passes cases)
unfolding many cases passes UnwindCodes·open
worked = tt
