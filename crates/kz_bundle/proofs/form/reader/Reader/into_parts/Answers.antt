use Rattle.kz_bundle.proofs.Whole.{are_parts}
use Rattle.kz_bundle.proofs.form.reader.Reader.into_parts.Goals as goal

pub returns-clause-parts : goal.returns-clause-parts
returns-clause-parts c =
    are_parts c.args.self c.into_texts.result c.into_texts-2.result c.push.new.self c.requires.sound c.requires.place
    c.into_texts.ensures.texts c.into_texts-2.ensures.texts c.in_ok-push.ensures.items c.requires.few_turns c.into_texts.ensures.once c.into_texts-2.ensures.once
