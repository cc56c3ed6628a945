-- The lines that are printed on the errors, and the line that `check` prints.
use Rattle.std.specs.Prelude.{ℕ, List, ◌++◌, codes, decimal}
use Rattle.cap_format.specs.declared.image.ImageFault.{ImageFault}
use Rattle.cap_format.specs.declared.image.ImageReason.{ImageReason}
use Rattle.asm_text.specs.declared.source.SourceFault.{SourceFault}
use Rattle.asm_text.specs.declared.source.SourceReason.{SourceReason}
use Rattle.asm_text.specs.declared.source.SourceReason.TheVariants as source
use Rattle.cap_format.specs.declared.image.ImageReason.TheVariants.{TooLong, Truncated, BadMagic, BadHeader, UnknownType, BadFlags, BadAddress, BadSize, Overlap, SecondTable, FileRange, NoSegment, BadEntry, BadPlace, BadBounds, BadOffset, BadPerms}

-- the words aren't a command, from this place on
abbrev pub usage_line : ℕ → List ℕ
usage_line place = codes "ufork: usage: word " ++ (decimal place ++ codes "\n")

-- the file of this name was not read
abbrev pub cannot_read_line : List ℕ → List ℕ
cannot_read_line name = codes "ufork: cannot read " ++ (name ++ codes "\n")

-- the text of a reason
abbrev pub reason_text : ImageReason → List ℕ
reason_text TooLong = codes "TooLong"
reason_text Truncated = codes "Truncated"
reason_text BadMagic = codes "BadMagic"
reason_text BadHeader = codes "BadHeader"
reason_text UnknownType = codes "UnknownType"
reason_text BadFlags = codes "BadFlags"
reason_text BadAddress = codes "BadAddress"
reason_text BadSize = codes "BadSize"
reason_text Overlap = codes "Overlap"
reason_text SecondTable = codes "SecondTable"
reason_text FileRange = codes "FileRange"
reason_text NoSegment = codes "NoSegment"
reason_text BadEntry = codes "BadEntry"
reason_text BadPlace = codes "BadPlace"
reason_text BadBounds = codes "BadBounds"
reason_text BadOffset = codes "BadOffset"
reason_text BadPerms = codes "BadPerms"

-- the file is no image
abbrev pub image_refused_line : ImageFault → List ℕ
image_refused_line fault = codes "ufork: image refused: " ++ (reason_text fault.reason ++ (codes " at " ++ (decimal fault.place ++ codes "\n")))

-- the text of a source's reason
abbrev pub source_reason_text : SourceReason → List ℕ
source_reason_text source.TooLong = codes "TooLong"
source_reason_text source.BadText = codes "BadText"
source_reason_text source.BadStatement = codes "BadStatement"
source_reason_text source.NoSegment = codes "NoSegment"
source_reason_text source.BadSegment = codes "BadSegment"
source_reason_text source.TooMany = codes "TooMany"
source_reason_text source.BadAlign = codes "BadAlign"
source_reason_text source.AfterBss = codes "AfterBss"
source_reason_text source.Misplaced = codes "Misplaced"
source_reason_text source.TooLarge = codes "TooLarge"
source_reason_text source.Empty = codes "Empty"
source_reason_text source.Twice = codes "Twice"
source_reason_text source.UnknownLabel = codes "UnknownLabel"
source_reason_text source.OutOfRange = codes "OutOfRange"
source_reason_text source.BadCap = codes "BadCap"
source_reason_text source.NoEntry = codes "NoEntry"

-- the text is no source, by its first fault
abbrev pub source_refused_line : SourceFault → List ℕ
source_refused_line fault = codes "ufork: source refused: line " ++ (decimal fault.line ++ (codes ": " ++ (source_reason_text fault.reason ++ codes "\n")))

-- the text is no schedule, by its first wrong line
abbrev pub schedule_refused_line : ℕ → List ℕ
schedule_refused_line line = codes "ufork: schedule refused: line " ++ (decimal line ++ codes "\n")

-- the console's input was not read
abbrev pub input_failed_line : List ℕ
input_failed_line = codes "ufork: input failed\n"

-- it has more bytes than it may have
abbrev pub input_too_long_line : List ℕ
input_too_long_line = codes "ufork: input too long\n"

-- the image has more pages than there are frames
abbrev pub frames_lacked_line : ℕ → ℕ → List ℕ
frames_lacked_line pages frames = codes "ufork: image needs " ++ (decimal pages ++ (codes " pages, " ++ (decimal frames ++ codes " frames\n")))

-- an image of so many pages and relocations, with this entry
abbrev pub image_line : ℕ → ℕ → ℕ → List ℕ
image_line pages relocations entry =
    codes "image " ++ (decimal pages ++ (codes " pages " ++ (decimal relocations ++ (codes " relocations entry " ++ (decimal entry ++ codes "\n")))))
