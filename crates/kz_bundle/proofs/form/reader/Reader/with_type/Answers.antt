use Rattle.std.proofs.Common.{◌≡◌, ◌+◌, length, [], ◌∷◌, ap, ◌∙◌, arith, length-append}
use Rattle.kz_model.specs.Store.TypeLines.{decl_of}
use Rattle.kz_bundle.proofs.form.reader.Reader.with_type.Goals as goal

pub returns-clause-sound : goal.returns-clause-sound
returns-clause-sound c =
    let s = c.requires.sound in
    let decl = decl_of c.args.text.now in
    let more : length c.push.new.self ≡ length c.args.self.now.types + 1 = ap length (c.in_ok-push.ensures.ok decl c.requires.fits) ∙ length-append c.args.self.now.types (decl ∷ []) in
    record {
      at = s.at;
      few_cpus = s.few_cpus;
      types = omega (arith, more, s.types, c.if-len-eq1024.false, c.len.ensures);
      names = s.names;
      few_names = s.few_names;
      few_words = s.few_words;
      before = s.before;
      section = s.section;
      counted = s.counted;
      few_steps = s.few_steps;
      turns = s.turns;
      order_at = s.order_at;
    }
