-- How many bytes a statement has.
use Rattle.std.proofs.Common.{◌≡◌, refl, ap, ℕ, zero, suc, ◌+◌, ◌^◌, ◌≤◌, pos, false, List, length, arith}
use Rattle.std.specs.Int.{bytes_low_first, int_rem_euclid}
use Rattle.std.proofs.lemmas.List.{length-replicate}
use Rattle.asm_text.specs.declared.listing.What.{What}
use Rattle.asm_text.specs.declared.listing.What.TheVariants.{Label, Segment, Entry, Bytes, Ascii, Space, Align, Bss, Cap, Instr}
use Rattle.asm_image.specs.Places.{natural, gap, size_of, bss_of, counted_of}
use Rattle.asm_image.specs.Labels.{Offsets}
use Rattle.asm_image.specs.Values.{value_from, number_or_zero, item_bytes}
use Rattle.asm_image.specs.Rules.{is_content}

-- So many bytes of a number are as many.
pub length-low_first : (from count n : ℕ) → length (bytes_low_first from count n) ≡ count
length-low_first from zero n = refl
length-low_first from (suc count) n = ap suc (length-low_first (suc from) count n)

-- A statement's bytes are as many as it takes.
pub item-length : (text : List ℕ) (offsets : Offsets) (at : ℕ) (what : What) → length (item_bytes text offsets at what) ≡ size_of text at what
item-length text offsets at (Label name) = refl
item-length text offsets at (Segment to rights) = refl
item-length text offsets at (Entry name) = refl
item-length text offsets at (Bytes size value) = length-low_first 0 size (natural (int_rem_euclid (number_or_zero (value_from text offsets 0 value)) (pos (2 ^ 64))))
item-length text offsets at (Ascii span) = refl
item-length text offsets at (Space count) = length-replicate (natural count) 0
item-length text offsets at (Align to) = length-replicate (gap at to) 0
item-length text offsets at (Bss count) = refl
item-length text offsets at (Cap base length offset perms) = refl
item-length text offsets at (Instr instr value) = refl

-- Those that count are among its bytes.
pub counted-most : (text : List ℕ) (at : ℕ) (what : What) → counted_of text at what ≤ size_of text at what + bss_of what
counted-most text at (Align to) = omega arith
counted-most text at what = omega arith

-- What is no content has none.
pub no-content : (text : List ℕ) (at : ℕ) (what : What) → is_content what ≡ false → size_of text at what + bss_of what ≡ 0
no-content text at (Label name) none = refl
no-content text at (Segment to rights) none = refl
no-content text at (Entry name) none = refl
no-content text at what some = absurd (cc)
