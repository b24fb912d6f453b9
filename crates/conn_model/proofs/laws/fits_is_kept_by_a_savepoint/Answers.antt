use Rattle.conn_model.proofs.Fits.{savepoint_fits}
use Rattle.conn_model.proofs.laws.fits_is_kept_by_a_savepoint.Goals as goal

pub returns : goal.returns
returns c = savepoint_fits
