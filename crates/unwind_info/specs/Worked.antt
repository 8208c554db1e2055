-- Worked records, as one table: each is what `decoded` computes. Every operation code is among them, and every refusal.
use Rattle.std.specs.Prelude.{ℕ, zero, suc, Bool, ◌&&◌, List, [], ◌∷◌, ◌++◌, T, eqb}
use Rattle.text.specs.Tests.{all, eqw}
use Rattle.unwind_info.specs.UnwindInfo.{decoded, UnwindInfo·open}

-- bytes of a function from 4096 to 4160 with its info at 20480, the room's length, and what the call comes to
pub record Case : Type 0 where
  pub bytes : List ℕ
  pub room : ℕ
  pub number : ℕ
  pub words : List ℕ

-- a body of these infos
abbrev body : ℕ → List ℕ → List ℕ
body n infos = 4096 ∷ 4160 ∷ 20480 ∷ n ∷ infos

abbrev done : List ℕ → List ℕ → Case
done bytes words = record { bytes = bytes; room = 64; number = 0; words = words }

abbrev refused : ℕ → List ℕ → Case
refused n bytes = record { bytes = bytes; room = 64; number = n; words = [] }

-- many times the same bytes
many : ℕ → List ℕ → List ℕ
many zero bytes = []
many (suc n) bytes = bytes ++ many n bytes

pub cases : List Case
cases =
    -- ALLOC_SMALL 32, PUSH_NONVOL rbx
    done (1 ∷ 6 ∷ 2 ∷ 0 ∷ 6 ∷ 50 ∷ 2 ∷ 48 ∷ []) (body 1 (0 ∷ 0 ∷ 2 ∷ 2 ∷ 0 ∷ 32 ∷ 1 ∷ 3 ∷ 0 ∷ []))
    -- ALLOC_LARGE 256 in one slot and 1,048,577 in two
    ∷ done (1 ∷ 14 ∷ 5 ∷ 0 ∷ 14 ∷ 1 ∷ 32 ∷ 0 ∷ 7 ∷ 17 ∷ 1 ∷ 0 ∷ 16 ∷ 0 ∷ []) (body 1 (0 ∷ 0 ∷ 2 ∷ 2 ∷ 0 ∷ 256 ∷ 2 ∷ 0 ∷ 1048577 ∷ []))
    -- SAVE_NONVOL rsi at 64 and SAVE_NONVOL_FAR rdi at 524,288 without a frame register; the frame offset is kept
    ∷ done (1 ∷ 0 ∷ 5 ∷ 32 ∷ 0 ∷ 100 ∷ 8 ∷ 0 ∷ 0 ∷ 117 ∷ 0 ∷ 0 ∷ 8 ∷ 0 ∷ []) (body 1 (0 ∷ 32 ∷ 2 ∷ 3 ∷ 6 ∷ 64 ∷ 3 ∷ 7 ∷ 524288 ∷ []))
    -- the same under rbp, behind SET_FPREG and before it; its info 9 is not read
    ∷ done (1 ∷ 0 ∷ 6 ∷ 37 ∷ 0 ∷ 100 ∷ 8 ∷ 0 ∷ 0 ∷ 147 ∷ 0 ∷ 117 ∷ 0 ∷ 0 ∷ 8 ∷ 0 ∷ [])
    (body 1 (5 ∷ 32 ∷ 3 ∷ 4 ∷ 6 ∷ 64 ∷ 5 ∷ 0 ∷ 0 ∷ 4 ∷ 7 ∷ 524288 ∷ []))
    -- SAVE_XMM128 and SAVE_XMM128_FAR of xmm6
    ∷ done (1 ∷ 0 ∷ 5 ∷ 0 ∷ 0 ∷ 104 ∷ 2 ∷ 0 ∷ 0 ∷ 105 ∷ 0 ∷ 0 ∷ 8 ∷ 0 ∷ []) (body 1 (0 ∷ 0 ∷ 2 ∷ 7 ∷ 0 ∷ 0 ∷ 7 ∷ 0 ∷ 0 ∷ []))
    -- PUSH_MACHFRAME without and with an error code, and with an info that is not defined
    ∷ done (1 ∷ 0 ∷ 3 ∷ 0 ∷ 0 ∷ 10 ∷ 0 ∷ 26 ∷ 0 ∷ 42 ∷ []) (body 1 (0 ∷ 0 ∷ 3 ∷ 6 ∷ 0 ∷ 0 ∷ 6 ∷ 0 ∷ 1 ∷ 8 ∷ 0 ∷ 0 ∷ []))
    -- code 6 behind a push: the part ends, what stands before it is kept, and the next part starts after the counted slots
    ∷ done (33 ∷ 0 ∷ 4 ∷ 0 ∷ 0 ∷ 48 ∷ 0 ∷ 6 ∷ 0 ∷ 80 ∷ 0 ∷ 96 ∷ 1 ∷ 0 ∷ 1 ∷ 0 ∷ 0 ∷ 80 ∷ [])
    (body 2 (0 ∷ 0 ∷ 2 ∷ 1 ∷ 3 ∷ 0 ∷ 8 ∷ 0 ∷ 0 ∷ 0 ∷ 0 ∷ 1 ∷ 1 ∷ 5 ∷ 0 ∷ []))
    -- ALLOC_LARGE whose slot lies past the count, with an info that is not defined, and codes 7 and 11
    ∷ done (1 ∷ 0 ∷ 1 ∷ 0 ∷ 0 ∷ 1 ∷ []) (body 1 (0 ∷ 0 ∷ 1 ∷ 8 ∷ 0 ∷ 0 ∷ []))
    ∷ done (1 ∷ 0 ∷ 3 ∷ 0 ∷ 0 ∷ 33 ∷ 0 ∷ 0 ∷ 0 ∷ 0 ∷ []) (body 1 (0 ∷ 0 ∷ 1 ∷ 8 ∷ 0 ∷ 0 ∷ []))
    ∷ done (1 ∷ 0 ∷ 1 ∷ 0 ∷ 0 ∷ 7 ∷ 1 ∷ 0 ∷ 1 ∷ 0 ∷ 0 ∷ 11 ∷ []) (body 2 (0 ∷ 0 ∷ 1 ∷ 8 ∷ 0 ∷ 0 ∷ 0 ∷ 0 ∷ 1 ∷ 8 ∷ 0 ∷ 0 ∷ []))
    -- 10: version 2, also where there is only one byte; 11: three bytes of a header, a slot cut off
    ∷ refused 10 (2 ∷ 0 ∷ 0 ∷ 0 ∷ [])
    ∷ refused 10 (0 ∷ [])
    ∷ refused 11 (1 ∷ 0 ∷ 0 ∷ [])
    ∷ refused 11 (1 ∷ 0 ∷ 1 ∷ 0 ∷ 0 ∷ [])
    -- part by part: 11 of the first before 10 of the second, and 10 of the second before 4
    ∷ refused 11 (1 ∷ 0 ∷ 255 ∷ 0 ∷ 2 ∷ 0 ∷ 0 ∷ 0 ∷ [])
    ∷ refused 10 (many 33 (1 ∷ 0 ∷ 0 ∷ 0 ∷ []) ++ (2 ∷ []))
    -- 4: no part, 33 parts
    ∷ refused 4 []
    ∷ refused 4 (many 33 (1 ∷ 0 ∷ 0 ∷ 0 ∷ []))
    -- 9: a room of one word less; just enough
    ∷ record { bytes = 1 ∷ 0 ∷ 0 ∷ 0 ∷ []; room = 6; number = 9; words = [] }
    ∷ record { bytes = 1 ∷ 0 ∷ 0 ∷ 0 ∷ []; room = 7; number = 0; words = body 1 (0 ∷ 0 ∷ 0 ∷ []) }
    ∷ []

pub passes : Case → Bool
passes c =
    let f = decoded c.bytes 4096 4160 20480 c.room in
    eqb f.number c.number && eqw f.placed c.words

pub worked : T (all passes cases)
unfolding many cases passes UnwindInfo·open
worked = tt
