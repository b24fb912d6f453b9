use Rattle.conn_model.proofs.Fits.{release_fits}
use Rattle.conn_model.proofs.laws.fits_is_kept_by_a_release.Goals as goal

pub returns : goal.returns
returns c = release_fits
