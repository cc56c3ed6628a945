-- What a text comes to that is read and assembled, or that is too long.
use Rattle.std.proofs.Common.{◌≡◌, ◌∙◌, refl, ap, ℕ, ◌<◌, List, length, Result, Ok, Err, MatchResult}
use Rattle.std.proofs.lemmas.Bool.{lt-ltb}
use Rattle.asm_text.specs.declared.listing.Item.{Item}
use Rattle.asm_text.specs.declared.source.SourceFault.{SourceFault}
use Rattle.asm_text.specs.declared.source.SourceReason.TheVariants.{TooLong}
use Rattle.asm_text.specs.declared.source.SourceRefusal.{SourceRefusal}
use Rattle.asm_text.specs.declared.source.SourceRefusal.TheVariants.{Fault, NoMemory}
use Rattle.asm_text.specs.Numbers.{source_bytes}
use Rattle.asm_text.specs.Source.{fault, source_of}
use Rattle.asm_text.specs.Spans.{IsRefusedAs}
use Rattle.asm_image.specs.Assembled.{assembled, assembled_or, file_from}
use Rattle.ufork_program.specs.Reading.{Told, IsSourceTextAt}
use Rattle.ufork_program.proofs.RequestLemmas.{TellsLong, long_at}

-- a listing is assembled
file-of : (text : List ℕ) (read : Result (List Item) SourceFault) → source_of text ≡ read → file_from text ≡ assembled_or text read
unfolding file_from
file-of text read is = ap (assembled_or text) is

-- a text that is no listing has its fault
pub refused-of : (text : List ℕ) (refusal : SourceRefusal) → IsRefusedAs (source_of text) refusal → IsRefusedAs (file_from text) refusal
refused-of text (Fault found) is = file-of text (Err found) is
refused-of text NoMemory is = tt

-- and one that is a listing is assembled to a file, or has the fault of the listing
pub assembled-of : {V : Type 0} (bytes : V → List ℕ) (text : List ℕ) (items : List Item) (result : Result V SourceRefusal) → source_of text ≡ Ok items
    → MatchResult result (λ file. assembled text items ≡ Ok (bytes file)) (λ refusal. IsRefusedAs (assembled text items) refusal)
    → MatchResult result (λ file. file_from text ≡ Ok (bytes file)) (λ refusal. IsRefusedAs (file_from text) refusal)
assembled-of bytes text items (Ok file) is made = file-of text (Ok items) is ∙ made
assembled-of bytes text items (Err (Fault found)) is made = file-of text (Ok items) is ∙ made
assembled-of bytes text items (Err NoMemory) is made = tt

-- a text that is longer than a source may be is at fault at line 0
pub long-file : (text : List ℕ) → source_bytes < length text → file_from text ≡ Err (fault 0 TooLong)
unfolding source_of
long-file text longer = file-of text (Err (fault 0 TooLong)) (rw (lt-ltb source_bytes (length text) longer) refl)

-- so such a text may stand where a read found too many bytes
pub long_source : (words : List (List ℕ)) (told : Told) (index : ℕ) (found : SourceFault) → ((text : List ℕ) → source_bytes < length text → file_from text ≡ Err found)
    → TellsLong words told index source_bytes → IsSourceTextAt words told index (Err found)
long_source words told index found none tells =
    let long = long_at words told index source_bytes tells in
    record { text = long.content; told_is = long.told_is; is = none long.content long.longer }
