-- What a space of whole copies stands for, and what it shows of frames.
use Rattle.std.specs.Prelude.{◌≡◌, List}
use Rattle.std.specs.Option.{option_map}
use Rattle.cap_format.specs.declared.cap.Cap.{Cap}
use Rattle.machine_types.specs.declared.config.Rule.TheVariants.{Full}
use Rattle.contents.specs.Content.{Content}
use Rattle.stores.specs.Boards.{Stands}
use Rattle.stores.specs.Known.{Translations}
use Rattle.stores.specs.Live.{HaveStores}
use Rattle.full_space.specs.declared.space.FullSpace.{FullSpace}
use Rattle.full_space.specs.Steps.{translation_of}

-- the contents with the rule `full` for which its board stands, and in which just the regions that it keeps as live have a
-- store
pub record FullStands (space : FullSpace) (c : Content) : Type 0 where
  pub rule : c.rule ≡ Full
  pub board : Stands space.board c
  pub stores : HaveStores space.live c

-- the translation of each page: that of its entry
abbrev pub full_translations : FullSpace → Translations
full_translations space region page = option_map translation_of (space.board.table.entries region page)

-- what its frames hold
abbrev pub frames_of : FullSpace → List (List Cap)
frames_of space = space.board.memory
