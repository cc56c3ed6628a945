-- What holds of the segment that is open, as long as the rules of places do.
use Rattle.std.proofs.Common.{◌≡◌, refl, ℕ, ◌+◌, ◌%◌, ◌≤◌, Bool, true, false, nat_lt, ◌||◌, Option, Some, None, List, length, arith, length-append}
use Rattle.std.proofs.lemmas.Grind.{common_steps}
use Rattle.cap_format.specs.Numbers.{region_bytes, page_bytes}
use Rattle.asm_text.specs.declared.listing.What.{What}
use Rattle.asm_text.specs.declared.listing.What.TheVariants.{Segment}
use Rattle.asm_text.specs.declared.listing.Item.{Item}
use Rattle.asm_text.specs.Ranges.{HasRanges}
use Rattle.asm_image.specs.declared.place.OpenSegment.{OpenSegment}
use Rattle.asm_image.specs.Places.{counted_of, here, place_in, grown, begun, open_by}
use Rattle.asm_image.specs.Faults.{AllMet}
use Rattle.asm_image.specs.Labels.{Offsets}
use Rattle.asm_image.specs.Values.{item_bytes}
use Rattle.asm_image.specs.Assembled.{bytes_by}
use Rattle.asm_image.specs.Rules.{past_of, is_content, rules_in, rules_by}
use Rattle.asm_image.proofs.StatementSizes.{item-length, counted-most, no-content}

-- a segment that just began has nothing yet
pub record IsNew (new : OpenSegment) : Type 0 where
  pub readable : 4 ≤ new.rights
  pub rights : new.rights ≤ 7
  pub size : new.size ≡ 0
  pub bss : new.bss ≡ 0
  pub counts : new.counts ≡ false

-- what an item may begin
abbrev pub IsNewOrNone : Option OpenSegment → Type 0
IsNewOrNone None = Unit {0}
IsNewOrNone (Some new) = IsNew new

-- the open segment, behind others whose pages end at `past`
pub record IsOpen (past : ℕ) (current : OpenSegment) : Type 0 where
  pub readable : 4 ≤ current.rights
  pub rights : current.rights ≤ 7
  pub aligned : current.start % page_bytes ≡ 0
  pub behind : past ≤ current.start
  pub inside : here current ≤ region_bytes
  pub some : current.counts ≡ true → 1 ≤ current.size + current.bss

-- where none is open there is none before
abbrev pub IsOpenOrNone : ℕ → Option OpenSegment → Type 0
IsOpenOrNone past None = past ≡ 0
IsOpenOrNone past (Some current) = IsOpen past current

-- the end of the segments before the open one, behind an item
abbrev pub past_by : ℕ → Option OpenSegment → Option OpenSegment → ℕ
past_by past (Some new) current = past_of current
past_by past None current = past

-- the bytes of the open segment are as many as it says
abbrev pub HasSize : Option OpenSegment → List ℕ → Type 0
HasSize None bytes = Unit {0}
HasSize (Some current) bytes = length bytes ≡ current.size

-- What an item begins is new.
pub begun-new : (line : ℕ) (what : What) → HasRanges what → IsNewOrNone (begun line what)
begun-new line (Segment at rights) (natural, readable, most) = record { readable = readable; rights = most; size = refl; bss = refl; counts = refl }
begun-new line what ranges = tt

module _ (text : List ℕ) where
  -- A statement keeps what holds of the segment that it is in.
  pub grown-inside : (line : ℕ) (what : What) (current : OpenSegment) → here current ≤ region_bytes → AllMet (rules_in text line what (Some current)) → here (grown text what current) ≤ region_bytes
  grown-inside line what current inside m = by (is_content what) refl
    where
      by : (b : Bool) → is_content what ≡ b → here (grown text what current) ≤ region_bytes
      by true content = let (align, (full, (place, (large, none)))) = rw content at m in grind (arith, common_steps, large)
      by false other = omega (arith, no-content text (here current) what other)

  grown-some : (what : What) (current : OpenSegment) → (current.counts ≡ true → 1 ≤ current.size + current.bss)
      → (current.counts || nat_lt 0 (counted_of text (here current) what)) ≡ true → 1 ≤ (grown text what current).size + (grown text what current).bss
  grown-some what current some counts = grind (arith, common_steps, counted-most text (here current) what)

  grown-open : (past line : ℕ) (what : What) (current : OpenSegment) → IsOpen past current → AllMet (rules_in text line what (Some current)) → IsOpen past (grown text what current)
  grown-open past line what current is m = record {
    readable = is.readable;
    rights = is.rights;
    aligned = is.aligned;
    behind = is.behind;
    inside = grown-inside line what current is.inside m;
    some = grown-some what current is.some;
  }

  -- Behind an item one is open again, or none is.
  pub open-next : (past count : ℕ) (item : Item) (new current : Option OpenSegment) → IsNewOrNone new → IsOpenOrNone past current → AllMet (rules_by text count item new current)
      → IsOpenOrNone (past_by past new current) (open_by text item.what new current)
  open-next past count item (Some new) current begins is (start, m) = record {
    readable = begins.readable;
    rights = begins.rights;
    aligned = grind (arith, common_steps, start);
    behind = grind (arith, common_steps, start);
    inside = grind (arith, common_steps, start, begins.size, begins.bss);
    some = λ counts. absurd (let none = begins.counts in cc);
  }
  open-next past count item None None begins is m = is
  open-next past count item None (Some current) begins is m = grown-open past item.line item.what current is m

  -- Its bytes are as many as it says.
  pub size-next : (offsets : Offsets) (what : What) (new current : Option OpenSegment) (bytes : List ℕ) → IsNewOrNone new → HasSize current bytes
      → HasSize (open_by text what new current) (bytes_by text offsets what new current bytes)
  size-next offsets what (Some new) current bytes begins size = omega (arith, begins.size)
  size-next offsets what None None bytes begins size = tt
  size-next offsets what None (Some current) bytes begins size =
      omega (arith, length-append bytes (item_bytes text offsets (here current) what), item-length text offsets (here current) what)

  -- Places never fall.
  pub place-rises : (count : ℕ) (item : Item) (new current : Option OpenSegment) → AllMet (rules_by text count item new current) → place_in current ≤ place_in (open_by text item.what new current)
  place-rises count item (Some new) None m = omega arith
  place-rises count item (Some new) (Some current) (start, m) = grind (arith, common_steps, start)
  place-rises count item None None m = omega arith
  place-rises count item None (Some current) m = omega arith
