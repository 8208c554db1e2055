-- Register names by number (document 01, Names): the tables of symbolic-cfi entry for entry, but for 64-bit ARM's, whose names go by the rule of
-- names/specs/Names.antt (document 02, request 4); and the PE x64 names in Microsoft's numbering.
-- An empty or missing entry is no name.
use Rattle.std.specs.Prelude.{ℕ, cond, List, [], ◌∷◌, get_or, eqb}
use Rattle.text.specs.Text.{ascii}
pub mod Laws

-- x86, by DWARF register number
unfoldable pub i386 : List (List ℕ)
i386 =
    ascii "$eax" ∷ ascii "$ecx" ∷ ascii "$edx" ∷ ascii "$ebx" ∷ ascii "$esp" ∷ ascii "$ebp" ∷ ascii "$esi" ∷ ascii "$edi"
    ∷ ascii "$eip" ∷ ascii "$eflags" ∷ ascii "$unused1" ∷ ascii "$st0" ∷ ascii "$st1" ∷ ascii "$st2" ∷ ascii "$st3" ∷ ascii "$st4"
    ∷ ascii "$st5" ∷ ascii "$st6" ∷ ascii "$st7" ∷ ascii "$unused2" ∷ ascii "$unused3" ∷ ascii "$xmm0" ∷ ascii "$xmm1" ∷ ascii "$xmm2"
    ∷ ascii "$xmm3" ∷ ascii "$xmm4" ∷ ascii "$xmm5" ∷ ascii "$xmm6" ∷ ascii "$xmm7" ∷ ascii "$mm0" ∷ ascii "$mm1" ∷ ascii "$mm2"
    ∷ ascii "$mm3" ∷ ascii "$mm4" ∷ ascii "$mm5" ∷ ascii "$mm6" ∷ ascii "$mm7" ∷ ascii "$fcw" ∷ ascii "$fsw" ∷ ascii "$mxcsr"
    ∷ ascii "$es" ∷ ascii "$cs" ∷ ascii "$ss" ∷ ascii "$ds" ∷ ascii "$fs" ∷ ascii "$gs" ∷ ascii "$unused4" ∷ ascii "$unused5"
    ∷ ascii "$tr" ∷ ascii "$ldtr" ∷ []

-- x86-64, by DWARF register number
unfoldable pub x86_64 : List (List ℕ)
x86_64 =
    ascii "$rax" ∷ ascii "$rdx" ∷ ascii "$rcx" ∷ ascii "$rbx" ∷ ascii "$rsi" ∷ ascii "$rdi" ∷ ascii "$rbp" ∷ ascii "$rsp"
    ∷ ascii "$r8" ∷ ascii "$r9" ∷ ascii "$r10" ∷ ascii "$r11" ∷ ascii "$r12" ∷ ascii "$r13" ∷ ascii "$r14" ∷ ascii "$r15"
    ∷ ascii "$rip" ∷ ascii "$xmm0" ∷ ascii "$xmm1" ∷ ascii "$xmm2" ∷ ascii "$xmm3" ∷ ascii "$xmm4" ∷ ascii "$xmm5" ∷ ascii "$xmm6"
    ∷ ascii "$xmm7" ∷ ascii "$xmm8" ∷ ascii "$xmm9" ∷ ascii "$xmm10" ∷ ascii "$xmm11" ∷ ascii "$xmm12" ∷ ascii "$xmm13" ∷ ascii "$xmm14"
    ∷ ascii "$xmm15" ∷ ascii "$st0" ∷ ascii "$st1" ∷ ascii "$st2" ∷ ascii "$st3" ∷ ascii "$st4" ∷ ascii "$st5" ∷ ascii "$st6"
    ∷ ascii "$st7" ∷ ascii "$mm0" ∷ ascii "$mm1" ∷ ascii "$mm2" ∷ ascii "$mm3" ∷ ascii "$mm4" ∷ ascii "$mm5" ∷ ascii "$mm6"
    ∷ ascii "$mm7" ∷ ascii "$rflags" ∷ ascii "$es" ∷ ascii "$cs" ∷ ascii "$ss" ∷ ascii "$ds" ∷ ascii "$fs" ∷ ascii "$gs"
    ∷ ascii "$unused1" ∷ ascii "$unused2" ∷ ascii "$fs.base" ∷ ascii "$gs.base" ∷ ascii "$unused3" ∷ ascii "$unused4" ∷ ascii "$tr" ∷ ascii "$ldtr"
    ∷ ascii "$mxcsr" ∷ ascii "$fcw" ∷ ascii "$fsw" ∷ []

-- 32-bit ARM
unfoldable pub arm : List (List ℕ)
arm =
    ascii "r0" ∷ ascii "r1" ∷ ascii "r2" ∷ ascii "r3" ∷ ascii "r4" ∷ ascii "r5" ∷ ascii "r6" ∷ ascii "r7"
    ∷ ascii "r8" ∷ ascii "r9" ∷ ascii "r10" ∷ ascii "r11" ∷ ascii "r12" ∷ ascii "sp" ∷ ascii "lr" ∷ ascii "pc"
    ∷ ascii "f0" ∷ ascii "f1" ∷ ascii "f2" ∷ ascii "f3" ∷ ascii "f4" ∷ ascii "f5" ∷ ascii "f6" ∷ ascii "f7"
    ∷ ascii "fps" ∷ ascii "cpsr" ∷ ascii "" ∷ ascii "" ∷ ascii "" ∷ ascii "" ∷ ascii "" ∷ ascii ""
    ∷ ascii "" ∷ ascii "" ∷ ascii "" ∷ ascii "" ∷ ascii "" ∷ ascii "" ∷ ascii "" ∷ ascii ""
    ∷ ascii "" ∷ ascii "" ∷ ascii "" ∷ ascii "" ∷ ascii "" ∷ ascii "" ∷ ascii "" ∷ ascii ""
    ∷ ascii "" ∷ ascii "" ∷ ascii "" ∷ ascii "" ∷ ascii "" ∷ ascii "" ∷ ascii "" ∷ ascii ""
    ∷ ascii "" ∷ ascii "" ∷ ascii "" ∷ ascii "" ∷ ascii "" ∷ ascii "" ∷ ascii "" ∷ ascii ""
    ∷ ascii "s0" ∷ ascii "s1" ∷ ascii "s2" ∷ ascii "s3" ∷ ascii "s4" ∷ ascii "s5" ∷ ascii "s6" ∷ ascii "s7"
    ∷ ascii "s8" ∷ ascii "s9" ∷ ascii "s10" ∷ ascii "s11" ∷ ascii "s12" ∷ ascii "s13" ∷ ascii "s14" ∷ ascii "s15"
    ∷ ascii "s16" ∷ ascii "s17" ∷ ascii "s18" ∷ ascii "s19" ∷ ascii "s20" ∷ ascii "s21" ∷ ascii "s22" ∷ ascii "s23"
    ∷ ascii "s24" ∷ ascii "s25" ∷ ascii "s26" ∷ ascii "s27" ∷ ascii "s28" ∷ ascii "s29" ∷ ascii "s30" ∷ ascii "s31"
    ∷ ascii "f0" ∷ ascii "f1" ∷ ascii "f2" ∷ ascii "f3" ∷ ascii "f4" ∷ ascii "f5" ∷ ascii "f6" ∷ ascii "f7" ∷ []

-- 32-bit and 64-bit PowerPC
unfoldable pub ppc : List (List ℕ)
ppc =
    ascii "r0" ∷ ascii "r1" ∷ ascii "r2" ∷ ascii "r3" ∷ ascii "r4" ∷ ascii "r5" ∷ ascii "r6" ∷ ascii "r7"
    ∷ ascii "r8" ∷ ascii "r9" ∷ ascii "r10" ∷ ascii "r11" ∷ ascii "r12" ∷ ascii "r13" ∷ ascii "r14" ∷ ascii "r15"
    ∷ ascii "r16" ∷ ascii "r17" ∷ ascii "r18" ∷ ascii "r19" ∷ ascii "r20" ∷ ascii "r21" ∷ ascii "r22" ∷ ascii "r23"
    ∷ ascii "r24" ∷ ascii "r25" ∷ ascii "r26" ∷ ascii "r27" ∷ ascii "r28" ∷ ascii "r29" ∷ ascii "r30" ∷ ascii "r31"
    ∷ ascii "f0" ∷ ascii "f1" ∷ ascii "f2" ∷ ascii "f3" ∷ ascii "f4" ∷ ascii "f5" ∷ ascii "f6" ∷ ascii "f7"
    ∷ ascii "f8" ∷ ascii "f9" ∷ ascii "f10" ∷ ascii "f11" ∷ ascii "f12" ∷ ascii "f13" ∷ ascii "f14" ∷ ascii "f15"
    ∷ ascii "f16" ∷ ascii "f17" ∷ ascii "f18" ∷ ascii "f19" ∷ ascii "f20" ∷ ascii "f21" ∷ ascii "f22" ∷ ascii "f23"
    ∷ ascii "f24" ∷ ascii "f25" ∷ ascii "f26" ∷ ascii "f27" ∷ ascii "f28" ∷ ascii "f29" ∷ ascii "f30" ∷ ascii "f31"
    ∷ ascii "" ∷ ascii "lr" ∷ ascii "ctr" ∷ ascii "" ∷ ascii "cr0" ∷ ascii "cr1" ∷ ascii "cr2" ∷ ascii "cr3"
    ∷ ascii "cr4" ∷ ascii "cr5" ∷ ascii "cr6" ∷ ascii "cr7" ∷ ascii "xer" ∷ ascii "vr0" ∷ ascii "vr1" ∷ ascii "vr2"
    ∷ ascii "vr3" ∷ ascii "vr4" ∷ ascii "vr5" ∷ ascii "vr6" ∷ ascii "vr7" ∷ ascii "vr8" ∷ ascii "vr9" ∷ ascii "vr10"
    ∷ ascii "vr11" ∷ ascii "vr12" ∷ ascii "vr13" ∷ ascii "vr14" ∷ ascii "vr15" ∷ ascii "vr16" ∷ ascii "vr17" ∷ ascii "vr18"
    ∷ ascii "vr19" ∷ ascii "vr20" ∷ ascii "vr21" ∷ ascii "vr22" ∷ ascii "vr23" ∷ ascii "vr24" ∷ ascii "vr25" ∷ ascii "vr26"
    ∷ ascii "vr27" ∷ ascii "vr28" ∷ ascii "vr29" ∷ ascii "vr30" ∷ ascii "vr31" ∷ ascii "" ∷ ascii "vscr" ∷ ascii ""
    ∷ ascii "" ∷ ascii "" ∷ ascii "tfhar" ∷ ascii "tfiar" ∷ ascii "texasr" ∷ []

-- MIPS
unfoldable pub mips : List (List ℕ)
mips =
    ascii "$zero" ∷ ascii "$at" ∷ ascii "$v0" ∷ ascii "$v1" ∷ ascii "$a0" ∷ ascii "$a1" ∷ ascii "$a2" ∷ ascii "$a3"
    ∷ ascii "$t0" ∷ ascii "$t1" ∷ ascii "$t2" ∷ ascii "$t3" ∷ ascii "$t4" ∷ ascii "$t5" ∷ ascii "$t6" ∷ ascii "$t7"
    ∷ ascii "$s0" ∷ ascii "$s1" ∷ ascii "$s2" ∷ ascii "$s3" ∷ ascii "$s4" ∷ ascii "$s5" ∷ ascii "$s6" ∷ ascii "$s7"
    ∷ ascii "$t8" ∷ ascii "$t9" ∷ ascii "$k0" ∷ ascii "$k1" ∷ ascii "$gp" ∷ ascii "$sp" ∷ ascii "$fp" ∷ ascii "$ra"
    ∷ ascii "$lo" ∷ ascii "$hi" ∷ ascii "$pc" ∷ ascii "$f0" ∷ ascii "$f2" ∷ ascii "$f3" ∷ ascii "$f4" ∷ ascii "$f5"
    ∷ ascii "$f6" ∷ ascii "$f7" ∷ ascii "$f8" ∷ ascii "$f9" ∷ ascii "$f10" ∷ ascii "$f11" ∷ ascii "$f12" ∷ ascii "$f13"
    ∷ ascii "$f14" ∷ ascii "$f15" ∷ ascii "$f16" ∷ ascii "$f17" ∷ ascii "$f18" ∷ ascii "$f19" ∷ ascii "$f20" ∷ ascii "$f21"
    ∷ ascii "$f22" ∷ ascii "$f23" ∷ ascii "$f24" ∷ ascii "$f25" ∷ ascii "$f26" ∷ ascii "$f27" ∷ ascii "$f28" ∷ ascii "$f29"
    ∷ ascii "$f30" ∷ ascii "$f31" ∷ ascii "$fcsr" ∷ ascii "$fir" ∷ []

-- x64 in PE unwind codes, in Microsoft's numbering
unfoldable pub pe_x64 : List (List ℕ)
pe_x64 =
    ascii "$rax" ∷ ascii "$rcx" ∷ ascii "$rdx" ∷ ascii "$rbx" ∷ ascii "$rsp" ∷ ascii "$rbp" ∷ ascii "$rsi" ∷ ascii "$rdi"
    ∷ ascii "$r8" ∷ ascii "$r9" ∷ ascii "$r10" ∷ ascii "$r11" ∷ ascii "$r12" ∷ ascii "$r13" ∷ ascii "$r14" ∷ ascii "$r15" ∷ []

-- a family's table, by the numbers of `CpuFamily`: 1 Intel32, 2 Amd64, 3 Arm32, 5 Ppc32, 6 Ppc64, 7 Mips32, 8 Mips64; 4 Arm64 and 9 Arm64_32 need
-- none, 0 Unknown and 10 Wasm32 have none
unfoldable pub table : ℕ → List (List ℕ)
table f =
    cond (eqb f 1) i386 (cond (eqb f 2) x86_64 (cond (eqb f 3) arm (cond (eqb f 5) ppc (cond (eqb f 6) ppc
    (cond (eqb f 7) mips (cond (eqb f 8) mips []))))))

-- 01, Names: by a family's table; a missing entry is no name
unfoldable pub listed_name : ℕ → ℕ → List ℕ
listed_name family register = get_or (table family) register []

-- 01, Names: PE x64 registers follow Microsoft
unfoldable pub pe_name : ℕ → List ℕ
pe_name register = get_or pe_x64 register []
