use Rattle.command_words.proofs.Names.{no-name}
use Rattle.command_words.proofs.words.option_named.Goals as goal

pub returns-in_default : goal.returns-in_default
returns-in_default c =
    let a = c.in_default in
    no-name c.args.word.now a.not-text a.not-text-2 a.not-text-3 a.not-text-4 a.not-text-5 a.not-text-6
