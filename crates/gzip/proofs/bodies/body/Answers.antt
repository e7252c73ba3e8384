-- The body's text joins the one before it, up to a fault or to where it gets too long; behind a whole body the member
-- ends or is wrong. For `body`.
use Rattle.std.proofs.Common.{◌≡◌, ℕ, ◌+◌, ◌-◌, ◌<◌, ◌≤◌, length, drop, ap, subst, ◌∙◌, arith, Result, Err, IfOk}
use Rattle.inflate.specs.declared.InflateError.TheVariants as errors
use Rattle.inflate_spec.specs.Texts.{Inflates}
use Rattle.gzip_spec.specs.declared.GzipFault.{GzipFault}
use Rattle.gzip_spec.specs.Headers.{member_end}
use Rattle.gzip.specs.declared.bodies.Stop.{Stop}
use Rattle.gzip.specs.Goes.{IsJoined}
use Rattle.gzip.proofs.BodyTexts.{whole_goes, long_goes, faulty_goes, long_at, faulty_at}
use Rattle.gzip.proofs.bodies.body.Goals as goal

pub returns-in-Ok : goal.returns-in-Ok
returns-in-Ok c =
    whole_goes c.args.most c.args.bytes.now c.args.header c.args.text.now.items c.in-Ok.found.text.items
    c.joined.new.text.items c.in-Ok.found.taken c.member_end-end.result c.joined.result c.requires.short
    (subst (λ bytes. Inflates bytes c.in-Ok.found.text.items c.in-Ok.found.taken) c.tail-rest.ensures
    c.in-Ok.ensures.found.0)
    (let fits = c.in-Ok.ensures.found.1 in omega (arith, fits, c.len.ensures))
    (c.member_end-end.ensures.end
    ∙ ap (member_end c.args.bytes.now (c.args.header + c.in-Ok.found.taken)) c.deref.ensures.value)
    (λ at e. (
      subst (λ (r : Result ℕ GzipFault). IfOk r (λ end. 0 < end)) e c.member_end-end.ensures.forward,
      subst (λ (r : Result ℕ GzipFault). IfOk r (λ end. end ≤ length c.args.bytes.now)) e
          c.member_end-end.ensures.within,
    ))
    (subst (λ (r : Result ℕ Stop). IsJoined c.args.text.now.items c.in-Ok.found.text.items c.joined.new.text.items r
    c.joined.result) c.stopped.ensures c.joined.ensures)

pub returns-in-Err-TooLong : goal.returns-in-Err-TooLong
returns-in-Err-TooLong c =
    long_goes c.args.most c.args.bytes.now c.args.header c.args.text.now.items c.in-Err-TooLong.more.items
    c.joined-in-Err-TooLong.new.text.items c.joined-in-Err-TooLong.result c.requires.short
    (long_at c.tail-rest.result.now (drop c.args.header c.args.bytes.now) (c.args.most - c.len.result)
    (c.args.most - length c.args.text.now.items) c.inflate.result c.in-Err-TooLong.more c.tail-rest.ensures
    (let e : c.args.most - c.len.result ≡ c.args.most - length c.args.text.now.items
    = omega (arith, c.len.ensures) in e)
    (let e : c.inflate.result ≡ Err (errors.TooLong c.in-Err-TooLong.more)
    = cc (c.in-Err-TooLong.is, c.in-Err-TooLong.field-0-is) in e)
    c.inflate.ensures.found)
    c.joined-in-Err-TooLong.ensures

pub returns-in-Err-Broken : goal.returns-in-Err-Broken
returns-in-Err-Broken c =
    let found = faulty_at c.tail-rest.result.now (drop c.args.header c.args.bytes.now) (c.args.most - c.len.result)
    (c.args.most - length c.args.text.now.items) c.inflate.result c.in-Err-Broken.fault c.in-Err-Broken.more
    c.tail-rest.ensures (let e : c.args.most - c.len.result ≡ c.args.most - length c.args.text.now.items
    = omega (arith, c.len.ensures) in e)
    (let e : c.inflate.result ≡ Err (errors.Broken c.in-Err-Broken.fault c.in-Err-Broken.more)
    = cc (c.in-Err-Broken.is, c.in-Err-Broken.field-0-is) in e)
    c.inflate.ensures.found in
    faulty_goes c.args.most c.args.bytes.now c.args.header c.args.text.now.items c.in-Err-Broken.more.items
    c.joined-in-Err-Broken.new.text.items c.in-Err-Broken.fault c.joined-in-Err-Broken.result c.requires.short
    found.0 found.1 c.joined-in-Err-Broken.ensures
