-- FNV-1a of 64 bits over a page, each cell's low byte and then its high byte, and over bytes.
use Rattle.std.specs.Prelude.{ℕ, ◌*◌, ◌/◌, ◌%◌, ◌^◌, List, bit_xor}
use Rattle.std.specs.List.{fold}

abbrev pub prime : ℕ
prime = 0x100_0000_01b3

abbrev pub start : ℕ
start = 0xcbf2_9ce4_8422_2325

abbrev pub with_byte : ℕ → ℕ → ℕ
with_byte h b = bit_xor h b * prime % 2 ^ 64

abbrev pub with_cell : ℕ → ℕ → ℕ
with_cell h v = with_byte (with_byte h (v % 256)) (v / 256)

abbrev pub digest_from : ℕ → List ℕ → ℕ
digest_from h p = fold with_cell h p

-- over bytes
abbrev pub bytes_from : ℕ → List ℕ → ℕ
bytes_from h l = fold with_byte h l
