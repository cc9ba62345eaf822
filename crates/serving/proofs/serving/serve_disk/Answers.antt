use Rattle.serving.proofs.Common.{◌≡◌, Err, rules, result_err}
use Rattle.serving.proofs.Sessions.{with_session, without_disk}
use Rattle.serving.proofs.serving.serve_disk.Goals as goal

pub returns-in_err-disk : goal.returns-in_err-disk
returns-in_err-disk g c =
    let given : c.from_residual-in_err-disk.result ≡ Err c.in_err-disk.field-0.0 = search rules in
    rw given (record {
      served =
          without_disk (g.C.Read.remaining c.args.config) c.args.partition (g.R.Read.remaining c.args.input.now) (g.W.Write.contents c.args.out.now) c.in_ok-config.config
          c.in_ok-config.ensures.read c.in_err-disk.field-0.0 c.in_err-disk.ensures.fault;
    })

pub returns : goal.returns
returns g c = record {
  served =
      with_session (g.C.Read.remaining c.args.config) c.args.partition (g.R.Read.remaining c.args.input.now) (g.W.Write.contents c.args.out.now) c.in_ok-config.config
      c.in_ok-config.ensures.read c.in_ok-disk.disk _ c.serve.result (result_err c.outcome.result) (g.R.Read.remaining c.serve.new.input) (g.W.Write.contents c.serve.new.out)
      c.in_ok-disk.ensures.content c.serve.ensures c.outcome.ensures;
}
